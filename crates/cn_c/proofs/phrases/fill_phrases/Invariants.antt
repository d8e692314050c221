use Rattle.std.proofs.Common.{◌≡◌, ◌≤◌, ◌-◌, ◌++◌, map, take, drop, length}
use denote.Shadow.{shadow}
use denote.Text.{Utf8}
use Rattle.cn_find.proofs.Runs.{IsEnd}
use Rattle.cn_phrase.specs.Items.{items_left}
use Rattle.cn_c.specs.Phrases.{phrase_told}
use Rattle.cn_c.proofs.phrases.fill_phrases.Given as goal

abbrev pub invariant-filling : goal.invariant-filling
invariant-filling l = record {
  within : l.count ≤ length (items_left l.wanted l.text l.rest);
  room : l.count ≤ length l.fn.phrases;
  ends : IsEnd l.text l.left;
  left : items_left l.wanted l.text l.left ≡ drop l.count (items_left l.wanted l.text l.rest);
  told : l.phrases ≡ map (phrase_told l.wanted) (take l.count (items_left l.wanted l.text l.rest))
      ++ drop l.count l.fn.phrases;
  utf8 : shadow (Utf8 l.left);
}

abbrev pub decreases-filling : goal.decreases-filling
decreases-filling l = length l.fn.phrases - l.count
