use Rattle.std.proofs.Common.{◌≡◌, ◌∷◌, [], ◌<◌, map, take, drop, length, length-take-le, refl, sym, ◌∙◌, arith, rules}
use Rattle.std.proofs.lemmas.List.{length-map}
use Rattle.cn_find.specs.Spans.{span_of}
use Rattle.cn_phrase.specs.Items.{items_left}
use Rattle.cn_c.specs.Phrases.{phrase_told}
use Rattle.cn_c.proofs.Filling.{filled, left, within, taken}
use Rattle.cn_c.proofs.phrases.fill_phrases.Goals as goal

pub filling-preserved : goal.filling-preserved
filling-preserved c =
    let all = items_left c.args.wanted c.args.text.now c.args.rest.now in
    let next : drop c.filling.count all
    ≡ span_of c.in-Some.found ∷ items_left c.args.wanted c.args.text.now c.in-Some.found.after.now =
    sym c.filling.invariant.left ∙ c.in-Some.ensures.parts in
    let room : c.filling.count < length c.args.phrases.now = omega arith in
    record {
      within = within c.filling.count all _ _ next;
      room = omega arith;
      ends = c.in-Some.ensures.ends;
      left = sym (left c.filling.count all _ _ next);
      told = rw c.phrase_of.ensures (rw c.filling.invariant.told (filled (phrase_told c.args.wanted)
          c.filling.count all _ _ _ next room));
      utf8 = search rules;
    }

pub returns-in_default : goal.returns-in_default
returns-in_default c =
    let all = items_left c.args.wanted c.args.text.now c.args.rest.now in
    let none : drop c.filling.count all ≡ [] =
    sym c.filling.invariant.left ∙ c.in_default.ensures.parts in
    let same : take (length c.args.phrases.now) all ≡ take c.filling.count all =
    taken c.filling.count _ all none c.filling.invariant.room in
    let count : length (map (phrase_told c.args.wanted) (take c.filling.count all)) ≡ c.filling.count =
    length-map _ _ ∙ length-take-le c.filling.count all c.filling.invariant.within in
    simp (same, count) (c.filling.invariant.told, refl)
