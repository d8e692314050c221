-- Groups that are read one after the other.
use Rattle.std.proofs.Common.{◌≡◌, ℕ, zero, suc, ◌+◌, ◌<◌, Bool, true, false, is_some, List, [], ◌∷◌, ◌++◌, length, take, drop, map, set, chars, refl, sym, ap, subst, ◌∙◌, arith, append_assoc}
use Rattle.std.proofs.lemmas.List.{map-append, take_more_set}
use Rattle.cn_codes.specs.declared.groups.Group.{Group as CodeGroup}
use Rattle.cn_codes.specs.Groups.{Group, group_at, group_of, groups_within}

-- so many groups are read, and the text from the next one on is left
pub record GroupsRead (is_digit is_sign : ℕ → Bool) (all : List Group) (list : List CodeGroup)
    (count : ℕ) (left : List ℕ) : Type 0 where
  pub more : ℕ
  pub most : count + more ≡ 9
  pub same : all ≡ map group_of (take count list) ++ groups_within more is_digit is_sign left

module _ (is_digit is_sign : ℕ → Bool) where
  pub read-none : (list : List CodeGroup) (left : List ℕ)
      → GroupsRead is_digit is_sign (groups_within 9 is_digit is_sign left) list 0 left
  read-none list left = record { more = 9; most = refl; same = refl }

  -- a group, by what is after it
  group-more : (more : ℕ) (left : List ℕ) (group : Group) → group ≡ group_at is_digit is_sign left
      → is_some group.sign ≡ true
      → groups_within (suc more) is_digit is_sign left
      ≡ group ∷ groups_within more is_digit is_sign (drop 1 group.rest)
  group-more more left group e some =
      rw (ap (λ (g : Group). is_some g.sign) (sym e) ∙ some) (rw e refl)

  group-last : (more : ℕ) (left : List ℕ) (group : Group) → group ≡ group_at is_digit is_sign left
      → is_some group.sign ≡ false
      → groups_within (suc more) is_digit is_sign left ≡ group ∷ []
  group-last more left group e none =
      rw (ap (λ (g : Group). is_some g.sign) (sym e) ∙ none) (rw e refl)

  -- a group that is stored after those that were read
  stored : (list : List CodeGroup) (count : ℕ) (g : CodeGroup) → count < length list
      → map group_of (take (count + 1) (set list count g))
      ≡ map group_of (take count list) ++ group_of g ∷ []
  stored list count g within =
      ap (map group_of) (take_more_set list count g within)
      ∙ map-append group_of (take count list) (g ∷ [])

  more-at : (all : List Group) (list : List CodeGroup) (count more : ℕ) (g : CodeGroup)
      (left : List ℕ) → count + more ≡ 9 → count < 9 → length list ≡ 9
      → all ≡ map group_of (take count list) ++ groups_within more is_digit is_sign left
      → group_of g ≡ group_at is_digit is_sign left → is_some g.sign ≡ true
      → GroupsRead is_digit is_sign all (set list count g) (count + 1) (drop 1 (chars g.rest.now))
  more-at all list count zero g left most within size same e some = absurd (omega arith)
  more-at all list count (suc more) g left most within size same e some = record {
    more = more;
    most = omega arith;
    same = same
        ∙ ap (λ l. map group_of (take count list) ++ l) (group-more more left (group_of g) e some)
        ∙ sym (ap (λ l. l ++ groups_within more is_digit is_sign (drop 1 (chars g.rest.now)))
        (stored list count g (omega arith))
        ∙ append_assoc (map group_of (take count list)) (group_of g ∷ [])
        (groups_within more is_digit is_sign (drop 1 (chars g.rest.now))));
  }

  pub read-more : (all : List Group) (list : List CodeGroup) (count : ℕ) (g : CodeGroup)
      (left next : List ℕ) → GroupsRead is_digit is_sign all list count left → count < 9
      → length list ≡ 9 → group_of g ≡ group_at is_digit is_sign left → is_some g.sign ≡ true
      → next ≡ drop 1 (chars g.rest.now)
      → GroupsRead is_digit is_sign all (set list count g) (count + 1) next
  read-more all list count g left next read within size e some is =
      subst (GroupsRead is_digit is_sign all (set list count g) (count + 1)) (sym is)
      (more-at all list count read.more g left read.most within size read.same e some)

  last-at : (all : List Group) (list : List CodeGroup) (count more : ℕ) (g : CodeGroup)
      (left : List ℕ) → count + more ≡ 9 → count < 9 → length list ≡ 9
      → all ≡ map group_of (take count list) ++ groups_within more is_digit is_sign left
      → group_of g ≡ group_at is_digit is_sign left → is_some g.sign ≡ false
      → map group_of (take (count + 1) (set list count g)) ≡ all
  last-at all list count zero g left most within size same e none = absurd (omega arith)
  last-at all list count (suc more) g left most within size same e none =
      stored list count g (omega arith)
      ∙ sym (same
      ∙ ap (λ l. map group_of (take count list) ++ l) (group-last more left (group_of g) e none))

  pub read-last : (all : List Group) (list : List CodeGroup) (count : ℕ) (g : CodeGroup)
      (left : List ℕ) → GroupsRead is_digit is_sign all list count left → count < 9
      → length list ≡ 9 → group_of g ≡ group_at is_digit is_sign left → is_some g.sign ≡ false
      → map group_of (take (count + 1) (set list count g)) ≡ all
  read-last all list count g left read within size e none =
      last-at all list count read.more g left read.most within size read.same e none
