use Rattle.std.proofs.Common.{◌≡◌, [], ◌∷◌, chars, encode_utf8_all, OnOk, refl, sym, ap, subst, ◌∙◌, append-nil}
use Rattle.std.specs.Char.{encode_utf8}
use Rattle.cn_replace.proofs.Passing.{same_front}
use Rattle.cn_phrase.specs.MoneyText.{part_character}
use Rattle.cn_phrase.proofs.money_text.put_character.Goals as goal

pub before_rest-requires : goal.before_rest-requires
before_rest-requires g c = record { front = c.args.c ∷ []; parts = c.requires }

pub returns-in-None : goal.returns-in-None
returns-in-None g c =
    let piece : chars c.before_rest.result.now ≡ c.args.c ∷ [] =
    same_front (c.args.c ∷ []) (chars c.before_rest.result.now) (chars c.args.rest.now)
    (sym c.before_rest.ensures ∙ c.requires) in
    let same : encode_utf8_all (chars c.before_rest.result.now) ≡ part_character c.args.c =
    ap encode_utf8_all piece ∙ append-nil (encode_utf8 c.args.c) ∙ rw (sym c.in-None.ensures.value) refl in
    subst (λ bytes. OnOk c.put_same.result (g.S.Sink.took c.args.sink.now c.put_same.new.sink bytes))
    same c.put_same.ensures
