-- What a pen has written since an earlier state.
use Rattle.std.proofs.Common.{◌≡◌, ℕ, ◌+◌, ◌*◌, List, ◌∷◌, ◌++◌, length, ◌∙◌, arith}
use Rattle.cn_core.specs.Mark.{Mark}

-- the marks `done` are before those that were written earlier, and took three bytes each
pub record Wrote {Setting : Type 0} (first left : ℕ) (was is : Setting)
    (showed shows : List Mark → Type 0) (done : List Mark) : Type 0 where
  pub room : left + 3 * length done ≡ first
  pub setting : is ≡ was
  pub marks : (marks : List Mark) → showed marks → shows (done ++ marks)

-- one more mark
pub Wrote-more : {Setting : Type 0} {first left less : ℕ} {was is still : Setting} {showed shows
    next : List Mark → Type 0} {done : List Mark} (mark : Mark)
    → Wrote first left was is showed shows done → less + 3 ≡ left → still ≡ is
    → ((marks : List Mark) → shows marks → next (mark ∷ marks))
    → Wrote first less was still showed next (mark ∷ done)
Wrote-more mark w room same step = record {
  room = omega (arith, w.room, room);
  setting =
      same ∙ w.setting;
  marks = λ marks h. step _ (w.marks marks h);
}
