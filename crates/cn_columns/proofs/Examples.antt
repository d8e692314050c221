-- Worked examples of the definitions, each proved by computing them.
use Rattle.std.proofs.Common.{◌≡◌, ℕ, List, [], ◌∷◌, true, false, Some, None, codes, map, refl, lit<, lit≤, ◌==◌, if◌then◌else◌}
use Rattle.cn_columns.specs.Bitmaps.{is_present}
use Rattle.cn_columns.specs.Columns.{IsPrinted, Row, ends, rows_of, texts}
use Rattle.cn_columns.specs.Reading.{text_between}

-- a row beyond the bitmap is present
bits : map (is_present (5 ∷ 128 ∷ [])) (0 ∷ 1 ∷ 2 ∷ 8 ∷ 15 ∷ 16 ∷ [])
    ≡ true ∷ false ∷ true ∷ false ∷ true ∷ true ∷ []
bits = refl

all-present : is_present [] 3 ≡ true
all-present = refl

-- a row for each number: 1 has one character, 2 has two, and others are refused
abbrev row : ℕ → Row
row number =
    if number == 1 then record { status = 0; text = codes "a" }
    else (if number == 2 then record { status = 0; text = codes "bc" }
    else record { status = 3; text = [] })

-- the second row is missing
rows : rows_of row 10 (5 ∷ []) 0 (2 ∷ 1 ∷ 7 ∷ [])
    ≡ record { status = 0; text = codes "bc" } ∷ record { status = 10; text = [] }
    ∷ record { status = 3; text = [] } ∷ []
rows = refl

-- from the second bit on, the first row is missing
later-rows : rows_of row 10 (5 ∷ []) 1 (2 ∷ 1 ∷ [])
    ≡ record { status = 10; text = [] } ∷ record { status = 0; text = codes "a" } ∷ []
later-rows = refl

abbrev three : List Row
three =
    record { status = 0; text = codes "bc" } ∷ record { status = 10; text = [] }
    ∷ record { status = 0; text = codes "a" } ∷ []

one-after-another : texts three ≡ codes "bca"
one-after-another = refl

where-they-end : ends 4 three ≡ 6 ∷ 6 ∷ 7 ∷ []
where-they-end = refl

-- into a buffer of 6 bytes, from its byte 4 on: the third text does not fit
printed : IsPrinted three
    (record { offsets = 4 ∷ 9 ∷ 9 ∷ 9 ∷ []; bytes = codes "......"; statuses = 8 ∷ 8 ∷ 8 ∷ [] })
    (record { offsets = 4 ∷ 6 ∷ 6 ∷ 9 ∷ []; bytes = codes "....bc"; statuses = 0 ∷ 10 ∷ 8 ∷ [] }) 2
printed = record {
  within = lit≤ tt;
  fits = λ some. lit≤ tt;
  full = λ more. lit< tt;
  offsets = refl;
  bytes = refl;
  statuses = refl;
}

between : text_between (codes "bca") 2 3 ≡ Some (codes "a")
between = refl

-- offsets that fall, or lead beyond the end, are those of no text
falling : text_between (codes "bca") 2 1 ≡ None
falling = refl

beyond : text_between (codes "bca") 2 4 ≡ None
beyond = refl
