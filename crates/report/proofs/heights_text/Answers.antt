use Rattle.std.proofs.Common.{◌≡◌, ◌*◌, ◌++◌, ◌∙◌, ℕ, ℤ, length, take, drop, ap, sym, string_bytes, rules}
use Rattle.std.proofs.Math.Seq.{take-append_seam}
use Rattle.phase_field.specs.Model.{field_of}
use Rattle.report.proofs.Answering.{if_ok_map, solved}
use Rattle.report.proofs.heights_text.Goals as goal

pub returns : goal.returns
returns c =
    let f = c.args.field.now in
    let room = c.unwrap_field-cost.new.room in
    let turns = c.in_ok-turns.turns in
    let long : length room ≡ turns.len = search rules in
    let all : length room ≡ f.wide * f.high = search rules in
    let rest = drop (length room) turns.items in
    let same : room ≡ c.as_slice.result.now = sym (c.as_slice.ensures.value ∙ ap (λ (n : ℕ). take n (room ++ rest)) (sym long) ∙ take-append_seam {A = ℤ} room rest) in
    if_ok_map _ _ c.shown.result (λ s p. solved c.args.form (field_of f) c.args.seen.now c.args.squares (string_bytes s) room c.as_slice.result.now c.as_slice-2.result.now c.unwrap_field-cost.result
    all same c.unwrap_field-cost.ensures.cost c.unwrap_field-cost.ensures.first c.unwrap_field-cost.ensures.least (c.as_slice-2.ensures.value ∙ c.in_ok-heights.ensures) p) c.shown.ensures
