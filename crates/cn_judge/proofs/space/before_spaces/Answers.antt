use Rattle.std.proofs.Common.{rules, ap, arith, chars, subst, sym, ◌++◌, ◌∷◌, [], ◌∙◌}
use Rattle.std.proofs.lemmas.List.{append_assoc}
use Rattle.cn_judge.specs.Private.Spaces.{EndsDark}
use Rattle.cn_judge.proofs.Spaces.{ends-dark, ends-space}
use Rattle.cn_judge.proofs.space.before_spaces.Goals as goal

pub returns-then-len-eq0-clause-dark : goal.returns-then-len-eq0-clause-dark
returns-then-len-eq0-clause-dark c =
    subst EndsDark c.as_bytes.ensures.value
    (ends-dark _ c.as_bytes.ensures.utf8 (sym c.last_space_len-len.ensures ∙ c.if-len-eq0.true))

pub overflow_sub-ahead : goal.overflow_sub-ahead
overflow_sub-ahead c =
    (ends-space _ _ _ c.as_bytes.ensures.value c.as_bytes.ensures.utf8 c.last_space_len-len.ensures
    c.if-len-eq0.false).within

pub split_at-requires : goal.split_at-requires
split_at-requires c =
    (ends-space _ _ _ c.as_bytes.ensures.value c.as_bytes.ensures.utf8 c.last_space_len-len.ensures
    c.if-len-eq0.false).boundary

pub skipping-preserved : goal.skipping-preserved
skipping-preserved c =
    let space = ends-space _ _ _ c.as_bytes.ensures.value c.as_bytes.ensures.utf8
    c.last_space_len-len.ensures c.if-len-eq0.false in
    let before = c.skipping.invariant.blank in
    let front = c.split_at.ensures.front in
    record {
      blank = record {
        white = space.code ∷ before.white;
        parts = before.parts ∙ ap (λ l. l ++ before.white) space.parts
            ∙ append_assoc _ (space.code ∷ []) before.white
            ∙ ap (λ l. chars l ++ space.code ∷ before.white) (sym front);
        blank = rw space.white before.blank;
      };
      within = omega (arith, c.skipping.invariant.within, c.split_at.ensures.front_len, space.within);
      utf8 = search rules;
    }
