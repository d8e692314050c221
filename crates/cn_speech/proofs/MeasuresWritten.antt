-- The characters of measures that are given as texts.
use Rattle.std.proofs.Common.{◌≡◌, true, ◌&&◌, List, [], ◌∷◌, map, chars, encode_utf8_all, refl, ap, ◌∙◌}
use Rattle.std.proofs.Math.Utf8.{scalars}
use Rattle.std.proofs.lemmas.Str.{chars-encodes}
use Rattle.std.specs.List.{list_all}
use Rattle.cn_core.proofs.Fronts.{and-left, and-right}
use Rattle.cn_speech.specs.Measures.{Measure, measure}

pub measures-are : (rows : List Measure)
    → list_all (λ m. scalars m.written && scalars m.spoken) rows ≡ true
    → map (λ m. measure (chars (encode_utf8_all m.written)) (chars (encode_utf8_all m.spoken))) rows
    ≡ rows
measures-are [] e = refl
measures-are (m ∷ rows) e =
    let both : (scalars m.written && scalars m.spoken) ≡ true =
    and-left (scalars m.written && scalars m.spoken)
    (list_all (λ each. scalars each.written && scalars each.spoken) rows) e in
    ap (λ l. measure l (chars (encode_utf8_all m.spoken))
    ∷ map (λ each. measure (chars (encode_utf8_all each.written)) (chars (encode_utf8_all each.spoken))) rows)
    (chars-encodes m.written (and-left (scalars m.written) (scalars m.spoken) both))
    ∙ ap (λ l. measure m.written l
    ∷ map (λ each. measure (chars (encode_utf8_all each.written)) (chars (encode_utf8_all each.spoken))) rows)
    (chars-encodes m.spoken (and-right (scalars m.written) (scalars m.spoken) both))
    ∙ ap (λ l. m ∷ l) (measures-are rows
    (and-right (scalars m.written && scalars m.spoken)
    (list_all (λ each. scalars each.written && scalars each.spoken) rows) e))
