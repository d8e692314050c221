use Rattle.std.proofs.Common.{ap, arith, chars, subst, sym, ◌∙◌, ◌∷◌}
use Rattle.std.proofs.lemmas.Str.{IsCharBoundary-from_drop}
use Rattle.cn_judge.specs.Private.Spaces.{BeginsDark}
use Rattle.cn_judge.proofs.Pieces.{StandsAt-white}
use Rattle.cn_judge.proofs.Spaces.{begins-dark, begins-space}
use Rattle.cn_judge.proofs.space.skip_spaces.Goals as goal

pub returns-then-len-eq0-clause-dark : goal.returns-then-len-eq0-clause-dark
returns-then-len-eq0-clause-dark c =
    subst BeginsDark c.as_bytes.ensures.value
    (begins-dark _ c.as_bytes.ensures.utf8 (sym c.first_space_len-len.ensures ∙ c.if-len-eq0.true))

pub split_at-requires : goal.split_at-requires
split_at-requires c =
    let space = begins-space _ _ _ c.as_bytes.ensures.value c.as_bytes.ensures.utf8
    c.first_space_len-len.ensures c.if-len-eq0.false in
    IsCharBoundary-from_drop _ _ space.within space.left

pub skipping-preserved : goal.skipping-preserved
skipping-preserved c =
    let space = begins-space _ _ _ c.as_bytes.ensures.value c.as_bytes.ensures.utf8
    c.first_space_len-len.ensures c.if-len-eq0.false in
    let behind = space.parts ∙ ap (λ l. space.code ∷ chars l) (sym c.split_at.ensures.back) in
    record {
      at = StandsAt-white _ _ _ _ _ (rw behind at c.skipping.invariant.at) space.white;
      within = omega (
        arith,
        space.within,
        c.if-len-eq0.false,
        c.split_at.ensures.back_len,
        c.skipping.invariant.within,
      );
    }
