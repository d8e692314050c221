-- Reading a part of a text from a state on.
use Rattle.std.proofs.Common.{◌≡◌, ℕ, ◌+◌, List, [], ◌∷◌, ◌++◌, length-append, Some, refl, sym, ap, ◌∙◌, append_assoc, arith}
use Rattle.cn_grammar.specs.Machine.{Machine, Reached}
use Rattle.cn_grammar.specs.Working.ReadOn.{HasRead}
use Rattle.cn_grammar.proofs.Runs.{run-append, run-more}

pub read-none : {S A : Type 0} (machine : Machine S A) (text : List ℕ) (state : S)
    → HasRead machine state text state 0 text
read-none machine text state = record { front = []; is = refl; counts = refl; runs = refl }

-- the state can be reached if the first one can
pub reached-on : {S A : Type 0} (machine : Machine S A) (first state : S) (text rest : List ℕ)
    (count : ℕ) → Reached machine first → HasRead machine first text state count rest
    → Reached machine state
reached-on machine first state text rest count (start, leads) h =
    (start ++ h.front, run-append machine.step machine.begin start h.front first leads ∙ h.runs)

-- one more character is read
pub read-more : {S A : Type 0} (machine : Machine S A) (first state next : S)
    (text rest after : List ℕ) (count c : ℕ) → HasRead machine first text state count rest
    → rest ≡ c ∷ after → machine.step state c ≡ Some next
    → HasRead machine first text next (count + 1) after
read-more machine first state next text rest after count c h parts e = record {
  front = h.front ++ c ∷ [];
  is = h.is ∙ ap (λ l. h.front ++ l) parts ∙ sym (append_assoc h.front (c ∷ []) after);
  counts = let n = h.counts in omega (arith, n, length-append h.front (c ∷ []));
  runs = run-more machine.step first h.front c state h.runs ∙ e;
}
