use Rattle.std.proofs.Common.{◌≡◌, ◌≤◌, chars, drop, length}
use Rattle.std.specs.Option.{option_map}
use Rattle.cn_find.specs.Spans.{in_front}
use Rattle.cn_phrase.specs.Phrases.{found_of, furthest}
use Rattle.cn_phrase.proofs.phrase.furthest.Given as goal

abbrev pub invariant-searching : goal.invariant-searching
invariant-searching l = record {
  within : l.left ≤ length l.forms;
  best : option_map found_of l.best
      ≡ furthest (in_front l.before) (chars l.text) l.lead (drop l.left l.forms);
}

abbrev pub decreases-searching : goal.decreases-searching
decreases-searching l = l.left
