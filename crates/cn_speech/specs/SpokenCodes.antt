-- Codes as they are spoken.
use Rattle.std.specs.Prelude.{ℕ, ◌==◌, Bool, false, List, [], ◌∷◌, ◌++◌, length, filter, codes, if◌then◌else◌}
use Rattle.cn_core.specs.FigureCharacters.{is_figure}
use Rattle.cn_replace.specs.Pieces.{after_leading, leading}
use Rattle.cn_codes.specs.declared.code.CodeKind.{CodeKind}
use Rattle.cn_codes.specs.declared.code.CodeKind.TheVariants.{Plain, Pointed, Barred}
use Rattle.cn_codes.specs.Codes.{Code, is_point}
use Rattle.cn_codes.specs.Digits.{value_of}
use Rattle.cn_phrase.specs.Between.{characters_before}
use Rattle.cn_speech.specs.declared.voice.One.{One}
use Rattle.cn_speech.specs.declared.voice.One.TheVariants.{Yi, Yao}
use Rattle.cn_speech.specs.declared.voice.Voice.{Voice}
use Rattle.cn_speech.specs.Numbers.{digit_said, figures_said}
use Rattle.cn_speech.specs.Voice.{word}

-- 一 or 幺 for 1
abbrev pub one_said : One → List ℕ
one_said Yi = codes "一"
one_said Yao = codes "幺"

abbrev pub figure_said : Voice → ℕ → List ℕ
figure_said voice c =
    if value_of c == 1 then one_said voice.one else digit_said voice c ∷ []

-- a sign between the groups of a code as it is spoken
abbrev pub sign_said : Voice → CodeKind → List ℕ
sign_said voice Pointed = word voice (codes "点")
sign_said voice Barred = word voice (codes "杠")
sign_said voice Plain = []

-- a character of a code: a figure by its name, or a sign
abbrev pub character_said : Voice → CodeKind → ℕ → List ℕ
character_said voice kind c =
    if is_figure c then figure_said voice c else sign_said voice kind

abbrev pub characters_said : Voice → CodeKind → List ℕ → List ℕ
characters_said voice kind [] = []
characters_said voice kind (c ∷ written) =
    character_said voice kind c ++ characters_said voice kind written

-- a version has two points
abbrev pub is_version : CodeKind → List ℕ → Bool
is_version Pointed written = length (filter is_point written) == 2
is_version kind written = false

-- the first number of a version is a number: 十点五点七
abbrev pub version_said : Voice → CodeKind → List ℕ → List ℕ
version_said voice kind written =
    figures_said voice (leading is_figure written)
    ++ characters_said voice kind (after_leading is_figure written)

abbrev pub code_said : Voice → CodeKind → List ℕ → List ℕ
code_said voice kind written =
    if is_version kind written then version_said voice kind written
    else characters_said voice kind written

-- the code with which a text begins
abbrev pub code_in_speech : Voice → List ℕ → Code → List ℕ
code_in_speech voice text code =
    code_said voice code.kind (characters_before text code.rest)
