use Rattle.std.proofs.Common.{ℕ, ◌^◌, ◌<◌, pos, List, Bor, Result, Ok, Err, MatchResult, IsFalse}
use Rattle.cn_core.specs.declared.case.ChineseCase.{ChineseCase}
use Rattle.cn_core.specs.declared.method.ChineseCountMethod.{ChineseCountMethod}
use Rattle.cn_core.specs.declared.script.ChineseVariant.{ChineseVariant}
use Rattle.cn_core.specs.Printing.{is_printable}
use Rattle.cn_spell.specs.declared.error.NumberToChineseError.{NumberToChineseError}
use Rattle.cn_spell.specs.declared.error.NumberToChineseError.TheVariants.{Overflow, Underflow, OutOfMemory}
use Rattle.cn_spell.specs.Prints.{IsUnwritten, PutsSpelled}
use Rattle.cn_quantity_text.specs.Working.Spelled.{IsSpelled}
use Rattle.cn_quantity_text.proofs.SpelledBytes.{spelled-bytes}
use Rattle.cn_quantity_text.proofs.numerals.spell.Goals as goal

answered : (variant : ChineseVariant) (case : ChineseCase) (method : ChineseCountMethod)
    (number : ℕ) (result : Result (Bor (List ℕ)) NumberToChineseError) → number < 2 ^ 128
    → MatchResult result (λ text. PutsSpelled variant case method (pos number) text.now)
    (IsUnwritten method (pos number))
    → MatchResult result (λ text. IsSpelled variant case method number text.now)
    (λ _. IsFalse (is_printable method (pos number)))
answered variant case method number (Ok text) small h =
    spelled-bytes variant case method number text.now small h
answered variant case method number (Err Overflow) small h = h.1
answered variant case method number (Err Underflow) small h = h.1
answered variant case method number (Err OutOfMemory) small h = absurd h

pub returns : goal.returns
returns c =
    let style = c.args.style in
    answered style.variant style.case style.method c.args.number c.put_chinese.result
    c.ranges.number.fits c.put_chinese.ensures
