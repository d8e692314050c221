-- How numbers and words are spoken: the script, the method, and the word for 1 in a code.
use Rattle.std.specs.Prelude.{ℕ, ◌==◌, List, [], ◌∷◌, codes, map, if◌then◌else◌}
use Rattle.cn_core.specs.declared.script.ChineseVariant.{ChineseVariant}
use Rattle.cn_core.specs.declared.script.ChineseVariant.TheVariants.{Simple, Traditional}
use Rattle.cn_speech.specs.declared.voice.Voice.{Voice}

-- the characters of spoken words that differ in the two scripts
abbrev pub simplified : List ℕ
simplified = codes "点两负摄华吨时钟纳兹欧号杠镑约于贝尔"

abbrev pub others : List ℕ
others = codes "點兩負攝華噸時鐘納茲歐號槓鎊約於貝爾"

-- the character of the second list that is where this character is in the first
abbrev pub replaced : List ℕ → List ℕ → ℕ → ℕ
replaced [] new c = c
replaced (a ∷ old) [] c = c
replaced (a ∷ old) (b ∷ new) c = if c == a then b else replaced old new c

-- a character of a spoken word in the traditional script
unfoldable pub traditional : ℕ → ℕ
traditional c = replaced simplified others c

-- a character of a spoken word in a script
abbrev pub in_script : ChineseVariant → ℕ → ℕ
in_script Simple c = c
in_script Traditional c = traditional c

-- a spoken word, which is given in simplified characters, in the script of the voice
abbrev pub word : Voice → List ℕ → List ℕ
word voice written = map (in_script voice.variant) written

-- 2 before a measure word
abbrev pub two : Voice → List ℕ
two voice = word voice (codes "两")
