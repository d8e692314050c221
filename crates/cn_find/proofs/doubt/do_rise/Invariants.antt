use Rattle.std.proofs.Common.{◌≡◌, chars, length}
use denote.Shadow.{shadow}
use denote.Text.{Utf8}
use Rattle.cn_find.specs.Doubt.{do_rise}
use Rattle.cn_find.proofs.doubt.do_rise.Given as goal

abbrev pub invariant-looking : goal.invariant-looking
invariant-looking l = record {
  same : do_rise (chars l.fn.text) ≡ do_rise (chars l.rest);
  utf8 : shadow (Utf8 l.rest);
}

abbrev pub decreases-looking : goal.decreases-looking
decreases-looking l = length l.rest
