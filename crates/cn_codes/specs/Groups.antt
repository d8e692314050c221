-- Runs of digits with a sign between, such as 010-62345678 and 192.168.1.1.
use Rattle.std.specs.Prelude.{ℕ, zero, suc, Bool, true, false, ◌&&◌, ◌||◌, ◌==◌, nat_le, List, [], ◌∷◌, length, drop, map, codes, chars, Option, Some, None, is_some, if◌then◌else◌}
use Rattle.std.specs.List.{list_all}
use Rattle.std.specs.Option.{option_map_or}
use Rattle.cn_replace.specs.Pieces.{after_leading, begins, leading}
use Rattle.cn_codes.specs.declared.groups.Group.{Group as CodeGroup}
use Rattle.cn_codes.specs.Digits.{begins_any_number, begins_zero}

-- a run, the sign between it and the next one, which the last has not, and the text after the run
pub record Group : Type 0 where
  pub digits : List ℕ
  pub sign : Option ℕ
  pub rest : List ℕ

-- what a `Group` in the code is
abbrev pub group_of : CodeGroup → Group
group_of g = record { digits = chars g.digits.now; sign = g.sign; rest = chars g.rest.now }

-- the sign with which a text begins, if a run is directly after it
abbrev pub sign_of : (ℕ → Bool) → (ℕ → Bool) → List ℕ → Option ℕ
sign_of is_digit is_sign [] = None
sign_of is_digit is_sign (c ∷ rest) = if is_sign c && begins is_digit rest then Some c else None

-- the run with which a text begins
abbrev pub group_at : (ℕ → Bool) → (ℕ → Bool) → List ℕ → Group
group_at is_digit is_sign text = record {
  digits = leading is_digit text;
  sign = sign_of is_digit is_sign (after_leading is_digit text);
  rest = after_leading is_digit text;
}

-- the groups with which a text begins, at most so many
abbrev pub groups_within : ℕ → (ℕ → Bool) → (ℕ → Bool) → List ℕ → List Group
groups_within zero is_digit is_sign text = []
groups_within (suc most) is_digit is_sign text =
    group_at is_digit is_sign text
    ∷ (if is_some (group_at is_digit is_sign text).sign
    then groups_within most is_digit is_sign (drop 1 (after_leading is_digit text)) else [])

-- nine are more than any code has
abbrev pub groups_of : (ℕ → Bool) → (ℕ → Bool) → List ℕ → List Group
groups_of is_digit is_sign text = groups_within 9 is_digit is_sign text

-- the text after the groups with which a text begins
abbrev pub after_groups : List Group → List ℕ → List ℕ
after_groups [] text = text
after_groups (group ∷ groups) text = after_groups groups group.rest

-- how many digits the groups have
abbrev pub lengths : List Group → List ℕ
lengths groups = map (λ group. length group.digits) groups

-- each sign between the groups is one of these
abbrev pub have_signs : (ℕ → Bool) → List Group → Bool
have_signs is_sign groups = list_all (λ group. option_map_or is_sign group.sign true) groups

-- these are the lengths of the groups
abbrev pub are : List ℕ → List ℕ → Bool
are [] [] = true
are (a ∷ rest) (b ∷ others) = a == b && are rest others
are rest others = false

-- how numbers of mobile telephones begin
abbrev pub mobiles : List (List ℕ)
mobiles =
    codes "13" ∷ codes "14" ∷ codes "15" ∷ codes "16" ∷ codes "17" ∷ codes "18" ∷ codes "19" ∷ []

unfoldable pub begins_mobile : List ℕ → Bool
begins_mobile run = begins_any_number mobiles run

-- its eleven digits in one run
unfoldable pub is_mobile : List ℕ → Bool
is_mobile run = length run == 11 && begins_mobile run

-- its eleven digits in groups of 3, 4 and 4
unfoldable pub is_mobile_in_groups : List Group → Bool
is_mobile_in_groups [] = false
is_mobile_in_groups (first ∷ groups) =
    are (lengths (first ∷ groups)) (3 ∷ 4 ∷ 4 ∷ []) && begins_mobile first.digits

-- a landline: an area code of three or four digits, of which the first is 0, and seven or eight
unfoldable pub is_landline : List Group → Bool
is_landline (area ∷ number ∷ []) =
    begins_zero area.digits
    && ((length area.digits == 3 || length area.digits == 4)
    && (length number.digits == 7 || length number.digits == 8))
is_landline groups = false

abbrev pub hotlines : List (List ℕ)
hotlines = codes "400" ∷ codes "800" ∷ []

unfoldable pub begins_hotline : List ℕ → Bool
begins_hotline run = begins_any_number hotlines run

-- a number that begins with 400 or 800, in groups of 3, 3 and 4 digits, or 3, 4 and 3
unfoldable pub is_hotline : List Group → Bool
is_hotline [] = false
is_hotline (area ∷ groups) =
    begins_hotline area.digits
    && (are (lengths (area ∷ groups)) (3 ∷ 3 ∷ 4 ∷ []) || are (lengths (area ∷ groups)) (3 ∷ 4 ∷ 3 ∷ []))

-- a card: groups of four digits, the last of at most four
abbrev pub are_fours : List Group → Bool
are_fours [] = false
are_fours (last ∷ []) = nat_le (length last.digits) 4
are_fours (group ∷ others) = length group.digits == 4 && are_fours others
