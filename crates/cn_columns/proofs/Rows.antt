-- One row more of a column of texts.
use Rattle.std.proofs.Common.{◌≡◌, ℕ, ◌+◌, ◌<◌, ◌≤◌, List, [], ◌∷◌, ◌++◌, length, map, take, drop, set, get_or, refl, sym, ap, ◌∙◌, arith, zero, suc, add-one, add-zero, append_assoc, append-nil, length-append, drop-cons, length-take-le, take-append-drop}
use Rattle.std.proofs.lemmas.List.{set_at, take_at, drop_at, drop-drop, length-map, map-append}
use Rattle.cn_columns.specs.Bitmaps.{is_present}
use Rattle.cn_columns.specs.Columns.{Row, ends, row_if, rows_of, texts}

pub length-rows : {V : Type 0} (f : V → Row) (missing : ℕ) (bitmap : List ℕ) (bit : ℕ) (values : List V)
    → length (rows_of f missing bitmap bit values) ≡ length values
length-rows f missing bitmap bit [] = refl
length-rows f missing bitmap bit (value ∷ values) =
    ap suc (length-rows f missing bitmap (bit + 1) values)

-- the next row is that of the next value
next-suc : {V : Type 0} (f : V → Row) (missing : ℕ) (bitmap : List ℕ) (bit : ℕ) (values : List V)
    (n : ℕ) (d : V) → n < length values
    → take (suc n) (rows_of f missing bitmap bit values) ≡ take n (rows_of f missing bitmap bit values)
    ++ row_if (is_present bitmap (bit + n)) missing (f (get_or values n d)) ∷ []
next-suc f missing bitmap bit [] n d l = absurd (omega (arith, l))
next-suc f missing bitmap bit (value ∷ values) zero d l =
    ap (λ at. row_if (is_present bitmap at) missing (f value) ∷ []) (sym (add-zero bit))
next-suc f missing bitmap bit (value ∷ values) (suc n) d l =
    let same : bit + 1 + n ≡ bit + suc n = omega arith in
    ap (λ rows. row_if (is_present bitmap bit) missing (f value) ∷ rows)
    (rw (← same) (next-suc f missing bitmap (bit + 1) values n d (omega (arith, l))))

pub next : {V : Type 0} (f : V → Row) (missing : ℕ) (bitmap : List ℕ) (bit : ℕ) (values : List V)
    (n : ℕ) (d : V) → n < length values
    → take (n + 1) (rows_of f missing bitmap bit values) ≡ take n (rows_of f missing bitmap bit values)
    ++ row_if (is_present bitmap (bit + n)) missing (f (get_or values n d)) ∷ []
next f missing bitmap bit values n d l = rw add-one (next-suc f missing bitmap bit values n d l)

pub texts-more : (rows : List Row) (row : Row) → texts (rows ++ row ∷ []) ≡ texts rows ++ row.text
texts-more [] row = append-nil row.text
texts-more (first ∷ rows) row =
    ap (λ bytes. first.text ++ bytes) (texts-more rows row) ∙ sym (append_assoc first.text (texts rows) row.text)

pub ends-more : (start : ℕ) (rows : List Row) (row : Row)
    → ends start (rows ++ row ∷ []) ≡ ends start rows ++ (start + length (texts rows) + length row.text) ∷ []
ends-more start [] row = ap (λ at. (at + length row.text) ∷ []) (sym (add-zero start))
ends-more start (first ∷ rows) row =
    let same : start + length first.text + length (texts rows) ≡ start + length (first.text ++ texts rows) =
    omega (arith, length-append first.text (texts rows)) in
    ap (λ others. (start + length first.text) ∷ others)
    (rw (← same) (ends-more (start + length first.text) rows row))

pub length-ends : (start : ℕ) (rows : List Row) → length (ends start rows) ≡ length rows
length-ends start [] = refl
length-ends start (row ∷ rows) = ap suc (length-ends (start + length row.text) rows)

-- one value more is written after those that were
pub filled : {A : Type 0} (xs old : List A) (n : ℕ) (x : A) → length xs ≡ n → n < length old
    → set (xs ++ drop n old) n x ≡ xs ++ x ∷ [] ++ drop (n + 1) old
filled xs old n x e l =
    ap (λ rest. set (xs ++ rest) n x) (drop-cons old n x l)
    ∙ set_at xs (get_or old n x) (drop (suc n) old) x n e
    ∙ rw add-one (sym (append_assoc xs (x ∷ []) (drop (suc n) old)))

-- one text more is written after those that were
pub put : (old : List ℕ) (start : ℕ) (done text : List ℕ) → start + length done + length text ≤ length old
    → take (start + length done) (take start old ++ done ++ drop (start + length done) old) ++ text
    ++ drop (start + length done + length text) (take start old ++ done ++ drop (start + length done) old)
    ≡ take start old ++ (done ++ text) ++ drop (start + length (done ++ text)) old
put old start done text l =
    let front : length (take start old ++ done) ≡ start + length done =
    length-append (take start old) done ∙ ap (λ n. n + length done) (length-take-le start old (omega (arith, l))) in
    let taken : take (start + length done) (take start old ++ done ++ drop (start + length done) old)
    ≡ take start old ++ done =
    take_at (take start old ++ done) (drop (start + length done) old) _ front in
    let left : drop (start + length done) (take start old ++ done ++ drop (start + length done) old)
    ≡ drop (start + length done) old =
    drop_at (take start old ++ done) (drop (start + length done) old) _ front in
    let dropped : drop (start + length done + length text) (take start old ++ done ++ drop (start + length done) old)
    ≡ drop (start + length done + length text) old =
    sym (drop-drop (length text) (start + length done) (take start old ++ done ++ drop (start + length done) old))
    ∙ ap (drop (length text)) left ∙ drop-drop (length text) (start + length done) old in
    let end : start + length done + length text ≡ start + length (done ++ text) =
    omega (arith, length-append done text) in
    rw (taken, dropped, ← end, append_assoc (take start old) done text) refl

-- before the first row nothing is written
pub nothing : (old : List ℕ) (start : ℕ) → take start old ++ [] ++ drop (start + 0) old ≡ old
nothing old start =
    rw (append-nil, add-zero) (take-append-drop start old)

-- the same, of each array
pub end-more : (start at end : ℕ) (rows : List Row) (row : Row) → at ≡ start + length (texts rows)
    → end ≡ at + length row.text → end ≡ start + length (texts (rows ++ row ∷ []))
end-more start at end rows row e f =
    rw texts-more (omega (arith, e, f, length-append (texts rows) row.text))

pub offsets-more : (start end : ℕ) (rows : List Row) (row : Row) (old offsets : List ℕ) (n : ℕ)
    → offsets ≡ take 1 old ++ ends start rows ++ drop (n + 1) old → length rows ≡ n
    → n + 1 < length old → end ≡ start + length (texts rows) + length row.text
    → set offsets (n + 1) end ≡ take 1 old ++ ends start (rows ++ row ∷ []) ++ drop (n + 1 + 1) old
offsets-more start end rows row old offsets n was same l e =
    let front : length (take 1 old ++ ends start rows) ≡ n + 1 =
    omega (arith, length-append (take 1 old) (ends start rows), length-take-le 1 old (omega (arith, l)), length-ends start rows, same) in
    ap (λ xs. set xs (n + 1) end) was
    ∙ filled (take 1 old ++ ends start rows) old (n + 1) end front l
    ∙ ap (λ xs. xs ++ drop (n + 1 + 1) old) (append_assoc (take 1 old) (ends start rows) (end ∷ [])
    ∙ ap (λ ys. take 1 old ++ ys) (ap (λ at. ends start rows ++ at ∷ []) e ∙ sym (ends-more start rows row)))

pub bytes-more : (start at end : ℕ) (rows : List Row) (row : Row) (old bytes new : List ℕ)
    → bytes ≡ take start old ++ texts rows ++ drop (start + length (texts rows)) old
    → at ≡ start + length (texts rows) → end ≡ at + length row.text → end ≤ length old
    → new ≡ take at bytes ++ row.text ++ drop end bytes
    → new ≡ take start old ++ texts (rows ++ row ∷ []) ++ drop (start + length (texts (rows ++ row ∷ []))) old
bytes-more start at end rows row old bytes new was e f l put_now =
    let room : start + length (texts rows) + length row.text ≤ length old = omega (arith, e, f, l) in
    let now : new ≡ take (start + length (texts rows)) bytes ++ row.text
    ++ drop (start + length (texts rows) + length row.text) bytes =
    put_now ∙ ap (λ n. take at bytes ++ row.text ++ drop n bytes) f
    ∙ ap (λ n. take n bytes ++ row.text ++ drop (n + length row.text) bytes) e in
    now
    ∙ ap (λ b. take (start + length (texts rows)) b ++ row.text ++ drop (start + length (texts rows) + length row.text) b) was
    ∙ put old start (texts rows) row.text room
    ∙ ap (λ b. take start old ++ b ++ drop (start + length b) old) (sym (texts-more rows row))

pub mapped-more : {A B : Type 0} (f : A → B) (xs : List A) (x : A) (old now : List B) (n : ℕ)
    → now ≡ map f xs ++ drop n old → length xs ≡ n → n < length old
    → set now n (f x) ≡ map f (xs ++ x ∷ []) ++ drop (n + 1) old
mapped-more f xs x old now n was same l =
    ap (λ ys. set ys n (f x)) was
    ∙ filled (map f xs) old n (f x) (length-map xs f ∙ same) l
    ∙ ap (λ ys. ys ++ drop (n + 1) old) (sym (map-append f xs (x ∷ [])))

-- the row after these does not fit
pub no_room : (start at room : ℕ) (rows : List Row) (row : Row) → at ≡ start + length (texts rows)
    → room < at + length row.text → room < start + length (texts (rows ++ row ∷ []))
no_room start at room rows row e l =
    rw texts-more (omega (arith, e, l, length-append (texts rows) row.text))
