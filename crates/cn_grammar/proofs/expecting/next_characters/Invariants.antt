use Rattle.std.proofs.Common.{◌≡◌, ◌≤◌, filter, is_some, take}
use Rattle.cn_grammar.specs.Expected.{list_of}
use Rattle.cn_grammar.proofs.expecting.next_characters.Given as goal

abbrev pub invariant-loop-character : goal.invariant-loop-character
invariant-loop-character g l = record {
  list : list_of l.next ≡ filter (λ c. is_some (g.G.Grammar.machine.step l.state c))
      (take l.character-index l.character-items);
  len : l.next.len ≤ l.character-index;
}
