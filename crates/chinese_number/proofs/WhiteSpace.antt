-- Strings with the same text are answered alike.
use Rattle.std.proofs.Common.{◌≡◌, ℕ, ℤ, List, drop, Option, Result, Ok, Err, refl, sym, ap, subst, ◌∙◌}
use Rattle.cn_core.specs.declared.method.ChineseCountMethod.{ChineseCountMethod}
use Rattle.cn_core.specs.declared.sign.Sign.{Sign}
use Rattle.cn_core.specs.Judge.{Judges}
use Rattle.cn_core.specs.Refusal.{Refusal, empty, incorrect_at, too_large, too_small}
use Rattle.cn_core.specs.Text.{text_of, marks_of}
use Rattle.cn_core.specs.Reading.{Reads, leading_sign, sign_len, typed_answer}
use Rattle.cn_core.specs.Whole.{Kind}
use Rattle.cn_core.proofs.Judging.{Judges-same}
use Rattle.chinese_number.specs.Places.{without_char_index}

-- the string tells a refusal's char_index_of, and nothing else
without_char_index-same : (kind : Kind) (one other : List ℕ) (sign : Option Sign)
    (judged : Result ℕ Refusal)
    → without_char_index (typed_answer kind one sign judged)
    ≡ without_char_index (typed_answer kind other sign judged)
without_char_index-same kind one other sign (Ok number) = refl
without_char_index-same kind one other sign (Err empty) = refl
without_char_index-same kind one other sign (Err (incorrect_at place)) = refl
without_char_index-same kind one other sign (Err too_large) = refl
without_char_index-same kind one other sign (Err too_small) = refl

pub Reads-same_text : (kind : Kind) (method : ChineseCountMethod) (one other : List ℕ)
    → text_of one ≡ text_of other → (first second : Result ℤ Refusal)
    → Reads kind method one first → Reads kind method other second
    → without_char_index first ≡ without_char_index second
Reads-same_text kind method one other same first second (x, is_x, first_is) (y, is_y, second_is) =
    let sign = λ (text : List ℕ). leading_sign kind.signed text in
    let marks = λ (text : List ℕ). marks_of (drop (sign_len (sign text)) text) in
    let judged : x ≡ y = Judges-same method (marks (text_of other)) x y
    (subst (λ text. Judges method (marks text) x) same is_x) is_y in
    ap without_char_index (first_is ∙ ap (λ text. typed_answer kind one (sign text) x) same)
    ∙ without_char_index-same kind one other (sign (text_of other)) x
    ∙ ap without_char_index (ap (typed_answer kind other (sign (text_of other))) judged
    ∙ sym second_is)
