use Rattle.std.proofs.Common.{◌≡◌, ◌&&◌, ◌||◌, not, length}
use Rattle.std.specs.List.{list_any}
use denote.Shadow.{shadow}
use denote.Text.{Utf8}
use Rattle.cn_core.specs.Text.{marks_of, text_of}
use Rattle.cn_quantity.specs.Misread.{is_small_unit, is_unit_from}
use Rattle.cn_quantity.proofs.misread.ends_below_wan.Given as goal

abbrev pub invariant-looking : goal.invariant-looking
invariant-looking l = record {
  same : (not (list_any (is_unit_from 4) (marks_of (text_of l.rest)))
      && (l.found || list_any is_small_unit (marks_of (text_of l.rest))))
      ≡ (not (list_any (is_unit_from 4) (marks_of (text_of l.fn.text)))
      && (l.fn.seen || list_any is_small_unit (marks_of (text_of l.fn.text))));
  utf8 : shadow (Utf8 l.rest);
}

abbrev pub decreases-looking : goal.decreases-looking
decreases-looking l = length l.rest
