-- What the words of a command line ask for, word by word.
use Rattle.std.proofs.Common.{◌≡◌, ℕ, ◌+◌, ◌<◌, ◌||◌, Bool, true, false, List, [], ◌∷◌, ◌++◌, codes, bytes_eq, length, get_or, map, take, Option, Some, None, refl, sym, arith, append-nil, ap, ◌∙◌, if◌then◌else◌}
use Rattle.std.proofs.Math.Bool.{or-true}
use Rattle.std.proofs.Math.ListN.{length-map}
use Rattle.std.proofs.lemmas.List.{get_or-map, take_more}
use Rattle.std.proofs.lemmas.List.Elements.{filter_map-append}
use Rattle.std.proofs.lemmas.List.Folds.{list_all-append, list_all_at, list_any-append}
use Rattle.std.proofs.lemmas.Slice.Eq.{bytes_eq-Decides}
use Rattle.std.specs.Bool.{Decides}
use Rattle.std.specs.List.{filter_map, last_or, list_all}
use Rattle.std.specs.Option.{unwrap_or}
use Rattle.chinese_number.specs.declared.ChineseCountMethod.{ChineseCountMethod}
use Rattle.chinese_number.specs.declared.ChineseCountMethod.TheVariants.{TenThousand}
use Rattle.cn_find.specs.declared.wanted.TheConstants.Wanted.{ALL, EVERYDAY}
use Rattle.numbers.specs.Request.{asked, has_word, is_known, method_named, search_of}
use Rattle.numbers.specs.declared.options.Search.{Search}

-- these words are known, and this is what they ask for
pub record Asks (words : List (List ℕ)) (help : Bool) (search : Search) : Type 0 where
  pub known : list_all is_known words ≡ true
  pub help_is : help ≡ has_word (codes "--help") words
  pub search_is : search ≡ search_of words

has_word-more : (text : List ℕ) (words : List (List ℕ)) (word : List ℕ)
    → has_word text (words ++ word ∷ []) ≡ (bytes_eq text word || has_word text words)
has_word-more text words word =
    rw list_any-append (turned (has_word text words) (bytes_eq text word)) where
      turned : (a b : Bool) → (a || (b || false)) ≡ (b || a)
      turned true true = refl
      turned true false = refl
      turned false true = refl
      turned false false = refl

last-more : {A : Type 0} (before : Option A) (xs : List A) (x : A)
    → last_or before (xs ++ x ∷ []) ≡ Some x
last-more before [] x = refl
last-more before (y ∷ xs) x = last-more (Some y) xs x

abbrev last_method : List (List ℕ) → ChineseCountMethod
last_method words = unwrap_or (last_or None (filter_map method_named words)) TenThousand

last_method-more : (words : List (List ℕ)) (word : List ℕ) (named : Option ChineseCountMethod)
    → method_named word ≡ named
    → last_method (words ++ word ∷ []) ≡ unwrap_or named (last_method words)
last_method-more words word None e =
    rw (filter_map-append method_named words (word ∷ []), e, append-nil) refl
last_method-more words word (Some method) e =
    rw (filter_map-append method_named words (word ∷ []), e, last-more None _ method) refl

wanted-more : (is_all all : Bool)
    → (if is_all || all then ALL else EVERYDAY)
    ≡ (if is_all then ALL else (if all then ALL else EVERYDAY))
wanted-more true all = refl
wanted-more false all = refl

-- the search after one more word, given what the word is
abbrev search_with : Bool → Bool → Option ChineseCountMethod → Search → Search
search_with is_exact is_all named search = record {
  exact = is_exact || search.exact;
  wanted = if is_all then ALL else search.wanted;
  method = unwrap_or named search.method;
}

search_of-more : (words : List (List ℕ)) (word : List ℕ) (is_exact is_all : Bool)
    (named : Option ChineseCountMethod)
    → bytes_eq (codes "--exact") word ≡ is_exact → bytes_eq (codes "--all") word ≡ is_all
    → method_named word ≡ named
    → search_with is_exact is_all named (search_of words) ≡ search_of (words ++ word ∷ [])
search_of-more words word is_exact is_all named exact_is all_is named_is =
    rw (
      has_word-more (codes "--exact") words word,
      has_word-more (codes "--all") words word,
      exact_is,
      all_is,
      wanted-more,
      last_method-more words word named named_is,
    ) refl

Asks-more : {words : List (List ℕ)} {help : Bool} {search : Search} (word : List ℕ)
    (is_help is_exact is_all : Bool) (named : Option ChineseCountMethod)
    → bytes_eq (codes "--help") word ≡ is_help → bytes_eq (codes "--exact") word ≡ is_exact
    → bytes_eq (codes "--all") word ≡ is_all → method_named word ≡ named → is_known word ≡ true
    → Asks words help search
    → Asks (words ++ word ∷ []) (is_help || help) (search_with is_exact is_all named search)
Asks-more {words} word is_help is_exact is_all named help_is exact_is all_is named_is known asks =
    record {
      known = grind (arith, list_all-append, asks.known, known);
      help_is = rw (has_word-more (codes "--help") words word, help_is, asks.help_is) refl;
      search_is = ap (search_with is_exact is_all named) asks.search_is
          ∙ search_of-more words word is_exact is_all named exact_is all_is named_is;
    }

pub Asks-help : {words : List (List ℕ)} {help : Bool} {search : Search}
    → Asks words help search → Asks (words ++ codes "--help" ∷ []) true search
Asks-help asks = Asks-more (codes "--help") true false false None refl refl refl refl refl asks

pub Asks-exact : {words : List (List ℕ)} {help : Bool} {search : Search}
    → Asks words help search
    → Asks (words ++ codes "--exact" ∷ []) help (record search { exact = true })
Asks-exact asks = Asks-more (codes "--exact") false true false None refl refl refl refl refl asks

pub Asks-all : {words : List (List ℕ)} {help : Bool} {search : Search}
    → Asks words help search
    → Asks (words ++ codes "--all" ∷ []) help (record search { wanted = ALL })
Asks-all asks = Asks-more (codes "--all") false false true None refl refl refl refl refl asks

other : (xs ys : List ℕ) → (ys ≡ xs → ⊥) → bytes_eq xs ys ≡ false
other xs ys differs =
    by (bytes_eq xs ys) (bytes_eq-Decides xs ys) where
      by : (is : Bool) → Decides is (xs ≡ ys) → is ≡ false
      by true decides = absurd (differs (sym (decides.0 refl)))
      by false decides = refl

pub Asks-method : {words : List (List ℕ)} {help : Bool} {search : Search} (word : List ℕ)
    (method : ChineseCountMethod)
    → (word ≡ codes "--help" → ⊥) → (word ≡ codes "--exact" → ⊥) → (word ≡ codes "--all" → ⊥)
    → method_named word ≡ Some method → Asks words help search
    → Asks (words ++ word ∷ []) help (record search { method = method })
Asks-method word method not_help not_exact not_all named asks =
    Asks-more word false false false (Some method) (other _ _ not_help) (other _ _ not_exact)
    (other _ _ not_all) named known asks where
      known : is_known word ≡ true
      known = rw named (or-true _)

pub unknown : (word : List ℕ)
    → (word ≡ codes "--help" → ⊥) → (word ≡ codes "--exact" → ⊥) → (word ≡ codes "--all" → ⊥)
    → method_named word ≡ None → is_known word ≡ false
unknown word not_help not_exact not_all named =
    rw (
      other word (codes "--help") (λ same. not_help (sym same)),
      other word (codes "--exact") (λ same. not_exact (sym same)),
      other word (codes "--all") (λ same. not_all (sym same)),
      named,
    ) refl

inside_map : {X : Type 0} (bytes_of : X → List ℕ) (words : List X) (i : ℕ)
    → i < length words → i < length (map bytes_of words)
inside_map bytes_of words i inside = grind (arith, length-map)

-- the words up to the next one
pub seen-more : {X : Type 0} (bytes_of : X → List ℕ) (words : List X) (i : ℕ) (word : X)
    → i < length words → word ≡ get_or words i word
    → take (i + 1) (map bytes_of words) ≡ take i (map bytes_of words) ++ bytes_of word ∷ []
seen-more bytes_of words i word inside is =
    rw (
      take_more (map bytes_of words) i (bytes_of word) (inside_map bytes_of words i inside),
      get_or-map bytes_of words i word (bytes_of word) inside,
      ← is,
    ) refl

pub asked-none : {X : Type 0} (bytes_of : X → List ℕ) (words : List X) (i : ℕ) (word : X)
    → i < length words → word ≡ get_or words i word → is_known (bytes_of word) ≡ false
    → None ≡ asked (map bytes_of words)
asked-none bytes_of words i word inside is none =
    rw (list_all_at is_known (map bytes_of words) i (bytes_of word)
    (inside_map bytes_of words i inside) at_word) refl where
      at_word : is_known (get_or (map bytes_of words) i (bytes_of word)) ≡ false
      at_word = rw (get_or-map bytes_of words i word (bytes_of word) inside, ← is) none
