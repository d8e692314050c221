-- Texts without phrases.
use Rattle.std.specs.Prelude.{ℕ, Bool, true, not, ◌&&◌, List, [], ◌∷◌, chars, is_some}
use Rattle.cn_find.specs.declared.wanted.Wanted.{Wanted}
use Rattle.cn_phrase.specs.Items.{whole_phrase}
use Rattle.cn_phrase.specs.Money.{money_at}
use Rattle.cn_phrase.specs.Ranges.{range_at}

-- no phrase, no sum of money and no range begins at any of these characters; those before them are
-- `front`
abbrev pub begins_no_phrase : Wanted → List ℕ → List ℕ → Bool
begins_no_phrase wanted front [] = true
begins_no_phrase wanted front (c ∷ ahead) =
    not (is_some (whole_phrase wanted front (c ∷ ahead)))
    && (not (is_some (money_at wanted front (c ∷ ahead)))
    && (not (is_some (range_at wanted front (c ∷ ahead))) && begins_no_phrase wanted (c ∷ front) ahead))

-- no phrase, no sum of money and no range begins at any character of a text
abbrev pub has_no_phrase : Wanted → List ℕ → Bool
has_no_phrase wanted bytes = begins_no_phrase wanted [] (chars bytes)
