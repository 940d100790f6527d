use Rattle.std.proofs.Common.{ℤ, pos, ◌+ℤ◌, ◌*ℤ◌, ◌++◌, ◌∷◌, [], vec_items, ap, ◌∙◌, rules, w64, SFits}
use Rattle.std.specs.Int.{saturate_to_bits}
use Rattle.std.proofs.lemmas.Int.{to_z-of_z}
use Rattle.std.specs.Iterator.Adapters.{zip_first, zip_second}
use Rattle.std.specs.Slice.Iter.{iter_rest}
use Rattle.std.proofs.lemmas.Slice.Zip.{Zip-more, either_empty_from_Zip}
use Rattle.print.proofs.Turned.{heights_stop, heights_step}
use Rattle.print.proofs.heights.heights_of.Goals as goal

pub loop-s-preserved : goal.loop-s-preserved
loop-s-preserved c =
    let s = c.loop-s.s-iterator in
    let t = c.next.new.self in
    let more = Zip-more s t c.next.result _ c.in-Some.is c.next.ensures.steps in
    let fits : SFits w64 c.in-Some.k.now = search rules in
    heights_step c.args.turn c.in-Some.s.now c.in-Some.k.now c.height.result (iter_rest (zip_first s)) (iter_rest (zip_first t)) (iter_rest (zip_second s)) (iter_rest (zip_second t)) (vec_items c.loop-s.heights) (vec_items c.push.new.self) _
    more.0 more.1 (c.height.ensures ∙ ap (λ (z : ℤ). saturate_to_bits 63 (pos c.in-Some.s.now +ℤ (z *ℤ pos c.args.turn))) (to_z-of_z w64 c.in-Some.k.now fits)) (c.in_ok-push.ensures.items ∙ ap (λ (z : ℤ). vec_items c.loop-s.heights ++ (z ∷ [])) (to_z-of_z w64 c.height.result (record { sfits = c.height.type_inv }))) c.loop-s.invariant

pub returns : goal.returns
returns c =
    let s = c.loop-s.s-iterator in
    heights_stop c.args.turn (iter_rest (zip_first s)) (iter_rest (zip_second s)) (vec_items c.loop-s.heights) _ (either_empty_from_Zip s c.next.new.self c.next.result c.in-None.is c.next.ensures.steps) c.loop-s.invariant
