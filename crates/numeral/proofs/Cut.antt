-- The lines of two sequences of bytes that are joined.
use Rattle.std.proofs.Common.{◌≡◌, ◌≢◌, ◌++◌, ◌<◌, ℕ, Bool, true, false, eqb, List, [], ◌∷◌, length, refl, sym, ap, ◌∙◌, append_assoc, arith, rules, eq-eqb}
use Rattle.std.proofs.lemmas.Bool.{false≢true}
use Rattle.std.proofs.lemmas.Bool.Decides.{nat_tests}
use Rattle.cn_lines.specs.Lines.{HasNoFeed, onto_first, onto_rest, ended, unended, lines, last_line}

no_feed_test : (b : ℕ) → b ≢ 10 → eqb b 10 ≡ false
no_feed_test b h = search (rules, nat_tests)

-- a line, its line feed, and more bytes
pub ended-line : (line more : List ℕ) → HasNoFeed line
    → ended (line ++ 10 ∷ more) ≡ line ∷ ended more
unfolding ended
ended-line [] more h = refl
ended-line (b ∷ line) more h =
    let e = no_feed_test b h.0 in
    rw e (rw (ended-line line more h.1) refl)

pub unended-line : (line more : List ℕ) → HasNoFeed line
    → unended (line ++ 10 ∷ more) ≡ unended more
unfolding ended unended
unended-line [] more h = refl
unended-line (b ∷ line) more h =
    let e = no_feed_test b h.0 in
    rw e (rw (ended-line line more h.1) (unended-line line more h.1))

-- bytes without a line feed
pub ended-none : (bytes : List ℕ) → HasNoFeed bytes → ended bytes ≡ []
unfolding ended
ended-none [] h = refl
ended-none (b ∷ bytes) h =
    let e = no_feed_test b h.0 in
    rw e (rw (ended-none bytes h.1) refl)

pub unended-none : (bytes : List ℕ) → HasNoFeed bytes → unended bytes ≡ bytes
unfolding ended unended
unended-none [] h = refl
unended-none (b ∷ bytes) h =
    let e = no_feed_test b h.0 in
    rw e (rw (ended-none bytes h.1) (ap (λ l. b ∷ l) (unended-none bytes h.1)))

-- a prefix and more bytes
record Joined (a b : List ℕ) : Type 0 where
  whole : ended (a ++ b) ≡ ended a ++ ended (unended a ++ b)
  rest : unended (a ++ b) ≡ unended (unended a ++ b)

-- a byte before the prefix that is not a line feed, by the lines after it
joined_byte : (x : ℕ) (a b : List ℕ) → eqb x 10 ≡ false → Joined a b → (ls : List (List ℕ))
    → ended a ≡ ls
    → (onto_first x (ended (a ++ b)) ≡ onto_first x ls ++ ended (onto_rest x ls (unended a) ++ b))
    × (onto_rest x (ended (a ++ b)) (unended (a ++ b)) ≡ unended (onto_rest x ls (unended a) ++ b))
unfolding ended unended
joined_byte x a b t h [] e =
    let w : ended (a ++ b) ≡ ended (unended a ++ b) =
    h.whole ∙ ap (λ l. l ++ ended (unended a ++ b)) e in
    let r = h.rest in
    (rw t (ap (onto_first x) w), rw t (rw (w, r) refl))
joined_byte x a b t h (l ∷ ls) e =
    let w : ended (a ++ b) ≡ (l ∷ ls) ++ ended (unended a ++ b) =
    h.whole ∙ ap (λ k. k ++ ended (unended a ++ b)) e in
    (rw w refl, rw w (h.rest))

joined : (a b : List ℕ) → Joined a b
unfolding ended unended
joined [] b = record { whole = refl; rest = refl }
joined (x ∷ a) b =
    let h = joined a b in
    let go : (t : Bool) → eqb x 10 ≡ t → Joined (x ∷ a) b =
    elim [
      | true ↦ λ e. record { whole = rw e (ap (λ l. [] ∷ l) h.whole); rest = rw e h.rest }
      | false ↦ λ e. let k = joined_byte x a b e h (ended a) refl
          in record { whole = rw e k.0; rest = rw e k.1 }
    ] in
    go (eqb x 10) refl

pub ended-append : (a b : List ℕ) → ended (a ++ b) ≡ ended a ++ ended (unended a ++ b)
ended-append a b = (joined a b).whole

pub unended-append : (a b : List ℕ) → unended (a ++ b) ≡ unended (unended a ++ b)
unended-append a b = (joined a b).rest

no_feed_byte : (x : ℕ) (a : List ℕ) → eqb x 10 ≡ false → (ls : List (List ℕ))
    → HasNoFeed (unended a) → HasNoFeed (onto_rest x ls (unended a))
no_feed_byte x a e [] h = (λ s. absurd (false≢true (sym e ∙ eq-eqb x 10 s)), h)
no_feed_byte x a e (l ∷ ls) h = h

pub HasNoFeed-unended : (bytes : List ℕ) → HasNoFeed (unended bytes)
unfolding unended
HasNoFeed-unended [] = tt
HasNoFeed-unended (x ∷ a) =
    let h = HasNoFeed-unended a in
    let go : (t : Bool) → eqb x 10 ≡ t → HasNoFeed (unended (x ∷ a)) =
    elim [ true ↦ λ e. rw e h | false ↦ λ e. rw e (no_feed_byte x a e (ended a) h) ] in
    go (eqb x 10) refl

pub HasNoFeed-append : (a b : List ℕ) → HasNoFeed a → HasNoFeed b → HasNoFeed (a ++ b)
HasNoFeed-append [] b p q = q
HasNoFeed-append (x ∷ a) b p q = (p.0, HasNoFeed-append a b p.1 q)

pub lines-append : (a b : List ℕ) → lines (a ++ b) ≡ ended a ++ lines (unended a ++ b)
unfolding lines
lines-append a b =
    rw (
      ended-append a b,
      unended-append a b,
      append_assoc (ended a) (ended (unended a ++ b)) (last_line (unended (unended a ++ b))),
    ) refl

-- one or more bytes make one or more lines
lines-some_byte : (x : ℕ) (a : List ℕ) (ls : List (List ℕ))
    → 0 < length (onto_first x ls ++ last_line (onto_rest x ls (unended a)))
lines-some_byte x a [] = search rules
lines-some_byte x a (l ∷ ls) = search rules

pub lines-some : (bytes : List ℕ) → 0 < length bytes → 0 < length (lines bytes)
unfolding lines ended unended
lines-some [] h = absurd (omega arith)
lines-some (x ∷ a) h =
    let go : (t : Bool) → eqb x 10 ≡ t → 0 < length (lines (x ∷ a)) =
    elim [ true ↦ λ e. rw e (search rules) | false ↦ λ e. rw e (lines-some_byte x a (ended a)) ] in
    go (eqb x 10) refl
