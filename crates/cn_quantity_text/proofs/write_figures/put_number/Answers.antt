use Rattle.std.proofs.Common.{◌++◌, decimal, refl, ap, ◌∙◌, ◌/◌, arith}
use Rattle.std.specs.Char.{encode_utf8}
use Rattle.cn_core.specs.Buffers.{Prepends, text_at_end}
use Rattle.cn_quantity_text.proofs.LastFigures.{few-figures, figures-last, figures-more, figures-one, figures-step}
use Rattle.cn_core.proofs.EndBuffers.{Prepends-text}
use Rattle.cn_quantity_text.proofs.write_figures.put_number.Goals as goal

pub loop-left-init : goal.loop-left-init
loop-left-init c = record {
  size = refl;
  room = let few = few-figures c.args.number c.ranges.number.fits in omega (arith, few, c.requires);
  text = refl;
}

pub put_char-requires : goal.put_char-requires
put_char-requires c =
    let l = c.loop-left in
    let more = figures-more l.left c.loop-left-test.true l.auto.left-fits.fits in
    omega (arith, c.digit.ensures.bytes, more, l.invariant.room)

pub loop-left-preserved : goal.loop-left-preserved
loop-left-preserved c =
    let l = c.loop-left in
    let put = c.put_char.ensures in
    let more = figures-more l.left c.loop-left-test.true l.auto.left-fits.fits in
    record {
      size = put.size ∙ l.invariant.size;
      room = omega (arith, put.free, c.digit.ensures.bytes, more, l.invariant.room);
      text = ap (λ text. decimal (l.left / 10) ++ text)
          (put.text ∙ ap (λ one. encode_utf8 one ++ text_at_end l.text) c.digit.ensures.character)
          ∙ figures-step l.left (text_at_end l.text) c.loop-left-test.true l.auto.left-fits.fits
          ∙ l.invariant.text;
    }

pub put_char-requires-2 : goal.put_char-requires-2
put_char-requires-2 c =
    let l = c.loop-left in
    let one = figures-one l.left c.loop-left-test.false in
    omega (arith, c.digit-2.ensures.bytes, one, l.invariant.room)

-- all figures of the number are written
put-all : (c : goal.After-put_char-2)
    → Prepends c.args.text.now c.put_char-2.new.self (decimal c.args.number)
put-all c =
    let l = c.loop-left in
    let put = c.put_char-2.ensures in
    Prepends-text c.args.text.now c.put_char-2.new.self (decimal c.args.number)
    (put.size ∙ l.invariant.size)
    (put.text ∙ ap (λ one. encode_utf8 one ++ text_at_end l.text) c.digit-2.ensures.character
    ∙ figures-last l.left (text_at_end l.text) c.loop-left-test.false ∙ l.invariant.text)

pub returns-clause-put : goal.returns-clause-put
returns-clause-put c = put-all c

pub returns-clause-room : goal.returns-clause-room
returns-clause-room c =
    let few = few-figures c.args.number c.ranges.number.fits in
    omega (arith, (put-all c).free, few)
