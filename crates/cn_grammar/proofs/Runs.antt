-- The state after a text, and after the text that follows it.
use Rattle.std.proofs.Common.{◌≡◌, List, [], ◌∷◌, ◌++◌, map, Option, Some, None, refl, sym, ap, subst, ◌∙◌, append-nil, append_assoc}
use Rattle.cn_grammar.specs.Machine.{run}

pub some-is : {S : Type 0} (s t : S) → Some s ≡ Some t → s ≡ t
some-is s t e = cc

abbrev pub ran : {S C : Type 0} → (S → C → Option S) → Option S → List C → Option S
ran step state rest = elim state [ None ↦ None | Some next ↦ run step next rest ]

pub run-ran : {S C : Type 0} (step : S → C → Option S) (state : S) (c : C) (rest : List C)
    (o : Option S) → step state c ≡ o → run step state (c ∷ rest) ≡ ran step o rest
run-ran step state c rest o e = ap (λ o. ran step o rest) e

pub run-append : {S C : Type 0} (step : S → C → Option S) (state : S) (start rest : List C)
    (next : S) → run step state start ≡ Some next
    → run step state (start ++ rest) ≡ run step next rest
run-append step state [] rest next e = ap (λ s. run step s rest) (some-is state next e)
run-append {S} step state (c ∷ start) rest next e =
    by (step state c) refl (λ after h. run-append step after start rest next h) where
      by : (o : Option S) → step state c ≡ o
          → ((after : S) → run step after start ≡ Some next
          → run step after (start ++ rest) ≡ run step next rest)
          → run step state (c ∷ (start ++ rest)) ≡ run step next rest
      by None s ih = let h = run-ran step state c start None s in absurd (cc)
      by (Some after) s ih = run-ran step state c (start ++ rest) (Some after) s
          ∙ ih after (sym (run-ran step state c start (Some after) s) ∙ e)

some-or-none : {S C : Type 0} (step : S → C → Option S) (o : Option S) → ran step o [] ≡ o
some-or-none step None = refl
some-or-none step (Some next) = refl

pub run-more : {S C : Type 0} (step : S → C → Option S) (state : S) (start : List C) (c : C)
    (next : S) → run step state start ≡ Some next
    → run step state (start ++ c ∷ []) ≡ step next c
run-more step state start c next e = run-append step state start (c ∷ []) next e
    ∙ run-ran step next c [] (step next c) refl ∙ some-or-none step (step next c)

-- a state that steps by the class of each character
pub run-map : {S C D : Type 0} (step : S → D → Option S) (class : C → D) (state : S)
    (text : List C) → run (λ s c. step s (class c)) state text ≡ run step state (map class text)
run-map step class state [] = refl
run-map {S} step class state (c ∷ text) =
    by (step state (class c)) (λ next. run-map step class next text) where
      by : (o : Option S)
          → ((next : S) → run (λ s c. step s (class c)) next text ≡ run step next (map class text))
          → ran (λ s c. step s (class c)) o text ≡ ran step o (map class text)
      by None ih = refl
      by (Some next) ih = ih next

-- what each step keeps holds for each state that a text leads to
pub kept : {S C : Type 0} (step : S → C → Option S) (Keeps : S → List C → Type 0)
    → ((state next : S) (text : List C) (c : C) → Keeps state text → step state c ≡ Some next
    → Keeps next (text ++ c ∷ []))
    → (start rest : List C) (state end : S) → Keeps state start → run step state rest ≡ Some end
    → Keeps end (start ++ rest)
kept step Keeps more start [] state end h e = subst (λ text. Keeps end text) (sym (append-nil start))
    (subst (λ s. Keeps s start) (some-is state end e) h)
kept {S} step Keeps more start (c ∷ rest) state end h e =
    by (step state c) refl
    (λ next s k. kept step Keeps more (start ++ c ∷ []) rest next end (more state next start c h s) k)
  where
    by : (o : Option S) → step state c ≡ o
        → ((next : S) → step state c ≡ Some next → run step next rest ≡ Some end
        → Keeps end ((start ++ c ∷ []) ++ rest)) → Keeps end (start ++ c ∷ rest)
    by None s ih = let none = run-ran step state c rest None s in absurd (cc)
    by (Some next) s ih = subst (λ text. Keeps end text) (append_assoc start (c ∷ []) rest)
        (ih next s (sym (run-ran step state c rest (Some next) s) ∙ e))
