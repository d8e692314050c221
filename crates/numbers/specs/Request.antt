-- What the words of a command line ask for. Words are given by their bytes.
use Rattle.std.specs.Prelude.{ℕ, ◌||◌, Bool, true, false, List, [], ◌∷◌, codes, bytes_eq, Option, Some, None, is_some, if◌then◌else◌}
use Rattle.std.specs.List.{filter_map, last_or, list_all, list_any}
use Rattle.std.specs.Option.{unwrap_or}
use Rattle.chinese_number.specs.declared.ChineseCountMethod.{ChineseCountMethod}
use Rattle.chinese_number.specs.declared.ChineseCountMethod.TheVariants.{TenThousand}
use Rattle.cn_find.specs.declared.wanted.TheConstants.Wanted.{ALL, EVERYDAY}
use Rattle.cn_dynamic.specs.declared.way.Way.{Way}
use Rattle.cn_dynamic.specs.declared.way.Way.TheVariants.{Units}
use Rattle.cn_dynamic.specs.Ways.{way_named}
use Rattle.numbers.specs.declared.options.Request.{Request}
use Rattle.numbers.specs.declared.options.Request.TheVariants as asks
use Rattle.numbers.specs.declared.options.Search.{Search}

-- this word is one of the words
abbrev pub has_word : List ℕ → List (List ℕ) → Bool
has_word word words = list_any (bytes_eq word) words

-- the method of a way, if it has one
abbrev pub method_of : Option Way → Option ChineseCountMethod
method_of (Some (Units method)) = Some method
method_of way = None

-- the method that a word names
abbrev pub method_named : List ℕ → Option ChineseCountMethod
method_named word = method_of (way_named word)

-- the word is an option or the name of a method
abbrev pub is_known : List ℕ → Bool
is_known word =
    has_word word (codes "--help" ∷ codes "--exact" ∷ codes "--all" ∷ [])
    || is_some (method_named word)

-- what a search looks for; if several methods are named, the last one counts
abbrev pub search_of : List (List ℕ) → Search
search_of words = record {
  exact = has_word (codes "--exact") words;
  wanted = if has_word (codes "--all") words then ALL else EVERYDAY;
  method = unwrap_or (last_or None (filter_map method_named words)) TenThousand;
}

-- what the words ask for; none if one of them is unknown
abbrev pub asked : List (List ℕ) → Option Request
asked words =
    if list_all is_known words
    then Some (if has_word (codes "--help") words then asks.Help else asks.Search (search_of words))
    else None

-- the request is for a search
abbrev pub asks_search : Option Request → Bool
asks_search (Some (asks.Search search)) = true
asks_search request = false
