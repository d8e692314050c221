-- A part after a sign.
use Rattle.std.proofs.Common.{◌≡◌, ℕ, List, ◌∷◌, ◌++◌, Option, Some, None, sym, ap, ◌∙◌}
use Rattle.cn_find.specs.declared.wanted.Wanted.{Wanted}
use Rattle.cn_speech.specs.declared.voice.Voice.{Voice}
use Rattle.cn_speech.specs.SpokenParts.{IsWithin, Part, Said, Utterance, after_sign, currency_at, currency_name, number_at, sign_word, signed_at, signed_text, utterance_text, with_sign}
use Rattle.cn_speech.specs.Voice.{word}

module _ (wanted : Wanted) (front text number next : List ℕ) (c : ℕ) (parts : text ≡ c ∷ number)
    (at : next ≡ c ∷ front) where
  pub signed-some : (sign : List ℕ) → Some sign ≡ sign_word c
      → with_sign sign (number_at wanted next number) ≡ signed_at wanted front text
  signed-some sign e = sym (ap (signed_at wanted front) parts
      ∙ ap (λ o. after_sign wanted (c ∷ front) number o (currency_name c)) (sym e)
      ∙ ap (λ l. with_sign sign (number_at wanted l number)) (sym at))

  pub signed-name : (name : List ℕ) → None ≡ sign_word c → Some name ≡ currency_name c
      → currency_at wanted next number name ≡ signed_at wanted front text
  signed-name name e named = sym (ap (signed_at wanted front) parts
      ∙ ap (λ o. after_sign wanted (c ∷ front) number o (currency_name c)) (sym e)
      ∙ ap (after_sign wanted (c ∷ front) number None) (sym named)
      ∙ ap (λ l. currency_at wanted l number name) (sym at))

  pub signed-none : None ≡ sign_word c → None ≡ currency_name c
      → None ≡ signed_at wanted front text
  signed-none e named = sym (ap (signed_at wanted front) parts
      ∙ ap (λ o. after_sign wanted (c ∷ front) number o (currency_name c)) (sym e)
      ∙ ap (after_sign wanted (c ∷ front) number None) (sym named))

pub signed-text-is : (voice : Voice) (front text number next sign : List ℕ) (u : Utterance) (c : ℕ)
    → text ≡ c ∷ number → next ≡ c ∷ front
    → word voice sign ++ utterance_text voice next number u ≡ signed_text voice front text sign u
signed-text-is voice front text number next sign u c parts at =
    ap (λ l. word voice sign ++ utterance_text voice l number u) at
    ∙ ap (λ l. signed_text voice front l sign u) (sym parts)
