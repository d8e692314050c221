use Rattle.std.proofs.Common.{◌≡◌, ◌≤◌, nat_abs, [], ◌∷◌, length, pos, int_lt, if◌then◌else◌, sym, ap, subst, ◌∙◌, w64, arith}
use Rattle.std.proofs.lemmas.Int.{to_z-of_z}
use Rattle.cn_grammar.proofs.Puts.{puts-none}
use Rattle.cn_amount.specs.declared.capital.Capital.TheVariants.{Fu}
use Rattle.cn_amount.specs.Places.{places_of}
use Rattle.cn_amount.proofs.SignedShown.{few-signed, signed-text-of}
use Rattle.cn_amount.proofs.write.signed_amount_text.Goals as goal

pub returns-clause-bytes : goal.returns-clause-bytes
returns-clause-bytes c =
    let fen = to_z-of_z w64 c.args.fen c.ranges.fen in
    let sign = rw fen at (c.put_sign.ensures _ [] (puts-none _ _ _ c.new-text.ensures.empty)) in
    let places : c.of.result ≡ places_of (nat_abs c.args.fen) =
    c.of.ensures.places ∙ ap places_of (c.unsigned_abs.ensures.value ∙ ap nat_abs fen) in
    signed-text-of c.args.variant c.args.form c.args.fen _ _ _ (omega (arith, ap length c.new-text.ensures.bytes))
    (rw places at c.put_amount.ensures _
    (if int_lt c.args.fen (pos 0) then Fu ∷ [] else []) sign) c.into_text.ensures

pub returns-clause-most : goal.returns-clause-most
returns-clause-most c =
    subst (λ bytes. length bytes ≤ 120) (sym (returns-clause-bytes c))
    (few-signed c.args.variant c.args.form c.args.fen)
