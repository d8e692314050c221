-- The text of a refusal.
use Rattle.std.specs.Prelude.{ℕ, List, ◌++◌, codes, decimal}
use Rattle.cn_figures.specs.declared.error.FiguresError.{FiguresError}
use Rattle.cn_figures.specs.declared.error.FiguresError.TheVariants.{Unfinished, Incorrect, TooLarge}

-- the bytes that `{}` writes for a refusal
abbrev pub refusal_text : FiguresError → List ℕ
refusal_text Unfinished = codes "the amount is not finished"
refusal_text (Incorrect char_index) =
    codes "the amount is incorrect (position: " ++ (decimal char_index ++ codes ")")
refusal_text TooLarge = codes "number is too large"
