-- A code or an item is at the start of a text, and something is left of it.
use Rattle.std.proofs.Common.{ℕ, Bool, true, false, not, ◌&&◌, List, [], ◌∷◌, Option, Some, None, IfSome, option_map, refl, arith, if◌then◌else◌}
use Rattle.std.specs.Option.{option_and_then, option_or}
use Rattle.cn_find.specs.declared.wanted.Wanted.{Wanted}
use Rattle.cn_phrase.specs.Items.{item_at}
use Rattle.cn_phrase.proofs.ItemSteps.{Leaves, item-leaves}
use Rattle.cn_phrase.proofs.Suffixes.{if-or}
use Rattle.cn_codes.specs.Codes.{Code, code_at}
use Rattle.cn_codes.specs.CodesInText.{Written, code_here, code_or_single, ends_number, reaches_further, rest_here, single_at, written_code}
use Rattle.cn_codes.specs.CodesInFigures.{is_single}
use Rattle.cn_codes.specs.Tens.{tens_version_at}
use Rattle.cn_codes.proofs.CodeLeaves.{code-leaves}
use Rattle.cn_codes.proofs.TensLeave.{tens-version-leaves}
use Rattle.cn_codes.proofs.PartsFound.{AllLeave}

single-leaves : (front text : List ℕ)
    → IfSome {T = Written} (single_at front text) (λ w. Leaves text w.rest)
single-leaves front [] = tt
single-leaves front (c ∷ rest) =
    by (is_single front c rest && not (ends_number front)) (Some c) where
      by : (b : Bool) (single : Option ℕ)
          → IfSome {T = Written} (if b then Some (record { single = single; rest = rest }) else None)
          (λ w. Leaves (c ∷ rest) w.rest)
      by true single = ((c ∷ [], refl), omega arith)
      by false single = tt

written-leaves : (text : List ℕ) (o : Option Code)
    → IfSome {T = Code} o (λ code. Leaves text code.rest)
    → IfSome {T = Written} (option_map written_code o) (λ w. Leaves text w.rest)
written-leaves text None h = tt
written-leaves text (Some code) h = h

versions-leave : (front text : List ℕ)
    → IfSome {T = Written} (option_or (option_map written_code (tens_version_at front text))
    (single_at front text)) (λ w. Leaves text w.rest)
versions-leave front text =
    if-or (λ (w : Written). Leaves text w.rest)
    (option_map written_code (tens_version_at front text)) (single_at front text)
    (written-leaves text (tens_version_at front text) (tens-version-leaves front text))
    (single-leaves front text)

or-leaves : (front text : List ℕ)
    → IfSome {T = Written} (code_or_single front text) (λ w. Leaves text w.rest)
or-leaves front text =
    if-or (λ (w : Written). Leaves text w.rest) (option_map written_code (code_at front text)) _
    (written-leaves text (code_at front text) (code-leaves front text)) (versions-leave front text)

chosen-leaves : (wanted : Wanted) (front text : List ℕ) (o : Option Written)
    → IfSome {T = Written} o (λ w. Leaves text w.rest)
    → IfSome (option_map (λ (w : Written). w.rest) (option_and_then (λ (w : Written).
    if reaches_further w.rest (item_at wanted front text) then None else Some w) o)) (Leaves text)
chosen-leaves wanted front text None h = tt
chosen-leaves wanted front text (Some w) h =
    by (reaches_further w.rest (item_at wanted front text)) where
      by : (b : Bool) → IfSome (option_map (λ (w : Written). w.rest) (if b then None else Some w))
          (Leaves text)
      by true = tt
      by false = h

pub here-leaves : (wanted : Wanted) → AllLeave (rest_here wanted)
here-leaves wanted = λ front text.
    if-or (Leaves text) (option_map (λ (w : Written). w.rest) (code_here wanted front text)) _
    (chosen-leaves wanted front text (code_or_single front text) (or-leaves front text))
    (item-leaves wanted front text)
