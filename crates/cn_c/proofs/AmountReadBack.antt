-- What is printed for an amount is read back as the same amount.
use Rattle.std.proofs.Common.{◌≡◌, ℕ, ◌<◌, nat_lt, Bool, true, false, MatchBool, List, take, chars, encode_utf8_all, Option, Some, None, Result, Ok, refl, sym, subst, arith}
use Rattle.std.proofs.lemmas.Bool.{ltb-true}
use Rattle.std.specs.Str.{IsUtf8}
use Rattle.cn_core.specs.declared.script.ChineseVariant.{ChineseVariant}
use Rattle.cn_amount.specs.declared.form.AmountForm.{AmountForm}
use Rattle.cn_amount.specs.Places.{amount_limit}
use Rattle.cn_amount.specs.Reading.{AmountRefusal, IsAmount, ReadsAmount}
use Rattle.cn_amount.specs.Working.Steps.{amount_machine}
use Rattle.cn_amount.specs.Writes.{amount_text}
use Rattle.cn_amount.proofs.FormsShown.{written-read, written-utf8}
use Rattle.cn_amount.proofs.ReadText.{amount_reads}
use Rattle.cn_grammar.proofs.OneAnswer as every
use Rattle.cn_c.specs.declared.amount.Amount.{Amount}
use Rattle.cn_c.specs.Amounts.{no_amount, TellsAmount, IsAmountRead, IsAmountPrintedAs}
use Rattle.cn_c.specs.Codes.{CN_DONE}
use Rattle.cn_c.specs.Prints.{PutsNothing, PutsIfItFits}
use Rattle.cn_c.proofs.ReadBack.{put-text}
use Rattle.cn_c.proofs.ToldBack.{told-back}

-- the one answer to a text that is written for an amount is this amount
one-answer : (script : ChineseVariant) (form : AmountForm) (fen : ℕ) (text : List ℕ)
    (answer : Result ℕ AmountRefusal) → fen < amount_limit → text ≡ encode_utf8_all (amount_text script form fen)
    → ReadsAmount text answer → answer ≡ Ok fen
one-answer script form fen text answer below is reads =
    every.one-answer IsAmount (every.one-value IsAmount amount_machine amount_reads) (chars text)
    answer (Ok fen) reads
    (subst (λ text. ReadsAmount text (Ok fen)) (sym is) (written-read script form fen below))

pub amount-back : (fen : ℕ) (script : Option ChineseVariant)
    (form : Option AmountForm) (old new : List ℕ) (len : ℕ)
    → IsAmountPrintedAs fen script form old CN_DONE new len
    → IsUtf8 (take len new)
    × ((status : ℕ) (amount : Amount) → IsAmountRead (take len new) status amount
    → (status ≡ CN_DONE) × (amount ≡ record { fen = fen; char_index = 0; byte_index = 0 }))
amount-back fen None form old new len printed = absurd (omega (arith, printed.0))
amount-back fen (Some script) None old new len printed = absurd (omega (arith, printed.0))
amount-back fen (Some script) (Some form) old new len printed = by (nat_lt fen amount_limit) refl printed where
  bytes : List ℕ
  bytes = encode_utf8_all (amount_text script form fen)

  by : (b : Bool) → nat_lt fen amount_limit ≡ b
      → MatchBool b (PutsIfItFits bytes old CN_DONE new len) (PutsNothing 3 old CN_DONE new len)
      → IsUtf8 (take len new)
      × ((status : ℕ) (amount : Amount) → IsAmountRead (take len new) status amount
      → (status ≡ CN_DONE) × (amount ≡ record { fen = fen; char_index = 0; byte_index = 0 }))
  by true e h =
      let text = put-text bytes old new len h in
      let utf8 = written-utf8 script form fen (take len new) text in (
        utf8,
        told-back ReadsAmount TellsAmount (λ status amount. (status ≡ 5) × (amount ≡ no_amount 0 0)) (take len new) fen utf8
            (λ answer. one-answer script form fen (take len new) answer (ltb-true fen amount_limit e) text),
      )
  by false e h = absurd (omega (arith, h.0))
