-- What may come next in a text, given which texts are forms, and of which value.
use Rattle.std.specs.Prelude.{◌≡◌, ◌↔◌, ℕ, ◌+◌, ◌<◌, ◌≤◌, ◌⊎◌, IsTrue, Bool, true, ◌&&◌, ◌||◌, List, [], ◌∷◌, ◌++◌, length, take, Some}
use Rattle.std.specs.Char.{char_set_contains, is_whitespace}
use Rattle.cn_grammar.specs.declared.character_list.CharacterList.{CharacterList}
use Rattle.cn_grammar.specs.declared.expecting.Expected.{Expected}
use Rattle.cn_grammar.specs.Answers.{Begins}
use Rattle.cn_grammar.specs.Machine.{Machine}

-- the characters of a short list
abbrev pub list_of : CharacterList → List ℕ
list_of characters = take characters.len characters.buffer

-- a character may come next: it is in the list, or it is white space and the flag is set
abbrev pub is_expected : Expected → ℕ → Bool
is_expected expected c =
    char_set_contains (list_of expected.characters) c || (expected.white_space && is_whitespace c)

-- so many characters of a text begin a form; they are all of it, or with one more no form begins
pub record BeginsUpTo {A : Type 0} (IsForm : List ℕ → A → Type 0) (text : List ℕ) (count : ℕ)
    : Type 0 where
  pub begins : Begins IsForm (take count text)
  pub longest : (count ≡ length text)
      ⊎ ((count < length text) × ¬ Begins IsForm (take (count + 1) text))

-- what may come next after the longest start of the text that begins a form: whether a form may end
-- there, and with which characters a form can go on
pub record IsExpected {A : Type 0} (IsForm : List ℕ → A → Type 0) (text : List ℕ)
    (expected : Expected) : Type 0 where
  pub up_to : BeginsUpTo IsForm text expected.char_index
  pub may_end : IsTrue expected.may_end
      ↔ ((value : A) × IsForm (take expected.char_index text) value)
  pub next : (c : ℕ) → Begins IsForm (take expected.char_index text ++ c ∷ [])
      ↔ IsTrue (is_expected expected c)

-- the characters that some form has are among these, or are white space; if `white` is true, white
-- space may be anywhere
pub record IsListed {S A : Type 0} (characters : List ℕ) (white : Bool) (machine : Machine S A)
    : Type 0 where
  pub few : length characters ≤ 48
  pub known : (state next : S) (c : ℕ) → machine.step state c ≡ Some next
      → IsTrue (char_set_contains characters c || (white && is_whitespace c))
  pub blank : white ≡ true → (state : S) (c : ℕ) → is_whitespace c ≡ true
      → (next : S) × (machine.step state c ≡ Some next)
