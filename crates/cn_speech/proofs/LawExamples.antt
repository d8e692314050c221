-- Of each law that has premises, values that meet all of them.
use Rattle.std.proofs.Common.{◌≡◌, false, codes, encode_utf8_all, refl}
use Rattle.std.specs.Char.{encode_utf8}
use Rattle.std.specs.Str.{chars, IsUtf8}
use Rattle.cn_speech.specs.Joined.{has_figure}

texts_without_figures_stay : IsUtf8 (encode_utf8_all (codes "去"))
    × (has_figure (chars (encode_utf8_all (codes "去"))) ≡ false)
unfolding chars encode_utf8
texts_without_figures_stay = ((codes "去", (refl, refl)), refl)
