use Rattle.std.proofs.Common.{◌≡◌, ◌∷◌, [], ◌<◌, map, take, drop, length, length-take-le, refl, sym, ◌∙◌, arith}
use Rattle.std.proofs.lemmas.List.{length-map}
use Rattle.cn_find.specs.Spans.{span_of}
use Rattle.cn_speech.specs.Places.{left_at}
use Rattle.cn_c.specs.Finds.{span_told}
use Rattle.cn_c.specs.Speaking.{doubt_in_text}
use Rattle.cn_c.proofs.Filling.{filled, left, within, taken}
use Rattle.cn_c.proofs.speaking.fill_left.Goals as goal

pub filling-preserved : goal.filling-preserved
filling-preserved c =
    let all = left_at c.args.wanted c.args.text.now c.args.meant.now c.args.place in
    let next : drop c.filling.count all ≡ span_of c.in-Some.left.found
    ∷ left_at c.args.wanted c.args.text.now c.args.meant.now c.in-Some.left.after =
    sym c.filling.invariant.left ∙ c.in-Some.ensures.parts in
    let room : c.filling.count < length c.args.spans.now = omega arith in
    record {
      within = within c.filling.count all _ _ next;
      room = omega arith;
      at = c.in-Some.ensures.place;
      left = sym (left c.filling.count all _ _ next);
      told = rw c.span_of_found.ensures (rw c.filling.invariant.told (filled (span_told doubt_in_text)
          c.filling.count all _ _ _ next room));
    }

pub returns-in_default : goal.returns-in_default
returns-in_default c =
    let all = left_at c.args.wanted c.args.text.now c.args.meant.now c.args.place in
    let none : drop c.filling.count all ≡ [] =
    sym c.filling.invariant.left ∙ c.in_default.ensures.parts in
    let same : take (length c.args.spans.now) all ≡ take c.filling.count all =
    taken c.filling.count _ all none c.filling.invariant.room in
    let count : length (map (span_told doubt_in_text) (take c.filling.count all)) ≡ c.filling.count =
    length-map _ _ ∙ length-take-le c.filling.count all c.filling.invariant.within in
    simp (same, count) (c.filling.invariant.told, refl)
