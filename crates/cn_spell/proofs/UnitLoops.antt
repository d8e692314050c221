-- The loop over the widths of a method's groups.
use Rattle.std.proofs.Common.{◌≡◌, ℕ, ◌+◌, ◌*◌, ◌<◌, ◌≤◌, true, false, nat_le, List, ◌∷◌, ◌++◌, length, drop, slice_index, refl, ap, ◌∙◌, arith, append_assoc, drop-cons, add-one, length-append}
use Rattle.std.proofs.lemmas.Bool.Decides.{nat_tests}
use Rattle.std.proofs.Math.ListN.{drop_of_length-le}
use Rattle.cn_core.specs.declared.method.ChineseCountMethod.{ChineseCountMethod}
use Rattle.cn_core.specs.Mark.{Mark}
use Rattle.cn_spell.specs.Working.Units.{start_of, unit_behind, units_over}

-- a group that begins at or above the powers that are written
pub behind-then : (method : ChineseCountMethod) (power filled above index : ℕ) (widths : List ℕ)
    (done all : List Mark) → index < length widths
    → above ≤ start_of (slice_index widths index) power
    → all ≡ units_over method power filled above (drop index widths) ++ done
    → all ≡ units_over method power filled (start_of (slice_index widths index) power + 1)
    (drop (index + 1) widths) ++ (unit_behind method filled above
    (start_of (slice_index widths index) power) ++ done)
behind-then method power filled above index widths done all less reach e =
    let start = start_of (slice_index widths index) power in
    let test : nat_le above start ≡ true = grind (arith, nat_tests, reach) in
    let first : units_over method power filled above
    (slice_index widths index ∷ drop (index + 1) widths)
    ≡ units_over method power filled (start + 1) (drop (index + 1) widths)
    ++ unit_behind method filled above start =
    rw test refl in
    let items : drop index widths ≡ slice_index widths index ∷ drop (index + 1) widths =
    rw (add-one, drop-cons widths index 0 less) refl in
    e ∙ ap (λ ws. units_over method power filled above ws ++ done) items
    ∙ ap (λ marks. marks ++ done) first
    ∙ append_assoc (units_over method power filled (start + 1) (drop (index + 1) widths))
    (unit_behind method filled above start) done

-- a group whose unit is written already
pub behind-else : (method : ChineseCountMethod) (power filled above index : ℕ) (widths : List ℕ)
    (done all : List Mark) → index < length widths
    → start_of (slice_index widths index) power < above
    → all ≡ units_over method power filled above (drop index widths) ++ done
    → all ≡ units_over method power filled above (drop (index + 1) widths) ++ done
behind-else method power filled above index widths done all less reach e =
    let test : nat_le above (start_of (slice_index widths index) power) ≡ false =
    grind (arith, nat_tests, reach) in
    let first : units_over method power filled above
    (slice_index widths index ∷ drop (index + 1) widths)
    ≡ units_over method power filled above (drop (index + 1) widths) = rw test refl in
    let items : drop index widths ≡ slice_index widths index ∷ drop (index + 1) widths =
    rw (add-one, drop-cons widths index 0 less) refl in
    e ∙ ap (λ ws. units_over method power filled above ws ++ done) items
    ∙ ap (λ marks. marks ++ done) first

-- the space that it takes
pub behind-room : (method : ChineseCountMethod) (power filled above index : ℕ) (widths : List ℕ)
    (done all : List Mark) (first left : ℕ) → index < length widths
    → above ≤ start_of (slice_index widths index) power
    → all ≡ units_over method power filled above (drop index widths) ++ done
    → 3 * length all ≤ first → left + 3 * length done ≡ first → 3
    * length (unit_behind method filled above (start_of (slice_index widths index) power)) ≤ left
behind-room method power filled above index widths done all first left less reach e most room =
    let start = start_of (slice_index widths index) power in
    let over = units_over method power filled (start + 1) (drop (index + 1) widths) in
    let own = unit_behind method filled above start in
    let whole : length all ≡ length (over ++ (own ++ done)) =
    ap length (behind-then method power filled above index widths done all less reach e) in
    omega (arith, whole, length-append over (own ++ done), length-append own done, most, room)

-- the end of the loop
pub behind-done : (method : ChineseCountMethod) (power filled above index : ℕ) (widths : List ℕ)
    (done all : List Mark) → length widths ≤ index
    → all ≡ units_over method power filled above (drop index widths) ++ done → all ≡ done
behind-done method power filled above index widths done all past e =
    e ∙ ap (λ ws. units_over method power filled above ws ++ done) (drop_of_length-le widths past)
