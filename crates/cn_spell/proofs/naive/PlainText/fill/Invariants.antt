use Rattle.std.proofs.Common.{◌≡◌, ◌+◌, ◌*◌, length, map}
use Rattle.cn_core.specs.Printing.{mark_char}
use Rattle.cn_spell.specs.Working.Room.{Shows}
use Rattle.cn_spell.specs.Working.Sections.{lowest_marks}
use Rattle.cn_spell.proofs.naive.PlainText.fill.Given as goal

abbrev pub invariant-loop-index : goal.invariant-loop-index
invariant-loop-index g l = record {
  shows : Shows l.room.free l.room.bytes.now
      (map (mark_char l.room.characters.now.variant l.room.characters.now.case)
      (lowest_marks (4 * l.index) l.self.sections.number));
  free : l.room.free + 12 * l.index ≡ length l.fn.bytes;
  characters : l.room.characters.now ≡ l.self.characters;
  lender : l.room.bytes.ghost_name ≡ l.initial.room.bytes.ghost_name;
}
