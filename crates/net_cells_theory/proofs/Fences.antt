-- Numbers of neighbours, and numbers as they are seen.
use Rattle.std.proofs.Common.{◌≡◌, ℕ, zero, suc, ◌+◌, ◌-◌, ◌<◌, ◌≤◌, ◌^◌, Bool, true, false, ◌*◌, List, length, ℤ, pos, ◌+ℤ◌, ◌<ℤ◌, neg_ℤ, nat_abs, ap, sym, subst, inl, inr, refl, arith}
use Rattle.std.proofs.lemmas.Bool.{cases_Bool}
use Rattle.std.proofs.lemmas.Int.{ints}
use Rattle.net_cells.specs.Lists.{number, signed, head, inner_of, potential_of, potential_in, view}
use Rattle.net_cells.specs.Net.{Feasible}
use Rattle.net_cells.specs.Search.{Search, Searched, Away}
use Rattle.net_cells_theory.proofs.Find.{potentials_bounded, always_finds}
use Rattle.net_cells.specs.Fenced.{Fenced, Bounded}
use Rattle.net_cells.specs.declared.cell.Cell.{Cell}
use Rattle.net_cells.specs.declared.cell.Costs.{Costs}
use Rattle.net_cells.specs.declared.side.Side.{Side}
use Rattle.net_cells.specs.declared.way.Way.{Way}
use Rattle.net_cells.specs.declared.way.Way.TheVariants.{Right, Left, Up, Down}

pub number_less : (w : Way) → number w < 4
number_less Right = omega arith
number_less Left = omega arith
number_less Up = omega arith
number_less Down = omega arith

pub head_less : (s n u d : ℕ) → 1 ≤ s → s ≤ u → u + s < n → head s u d < n
unfolding head
head_less s n u zero a b c = omega arith
head_less s n u (suc zero) a b c = omega arith
head_less s n u (suc (suc zero)) a b c = omega arith
head_less s n u (suc (suc (suc d))) a b c = omega arith

pub head_within : (cells : List Cell) (costs : List Costs) (side : Side) (u d : ℕ) → Fenced cells costs side → inner_of cells u ≡ true → head side.stride u d < length cells
head_within cells costs side u d f i = head_less side.stride (length cells) u d f.stride (omega (arith, f.low u i)) (f.high u i)

pub abs_signed : (b : Bool) (z : ℤ) → nat_abs (signed b z) ≡ nat_abs z
abs_signed true z = omega (arith, ints)
abs_signed false z = refl

pub signed_twice : (b : Bool) (z : ℤ) → signed b (signed b z) ≡ z
signed_twice true z = omega (arith, ints)
signed_twice false z = refl

pub potential_fits : (cells : List Cell) (side : Side) (v : ℕ) → Bounded cells → nat_abs (potential_in cells side v) ≤ 2 ^ 28
unfolding potential_in
potential_fits cells side v b = omega (arith, abs_signed side.back (potential_of cells v), b v)

pub signed_more : (b : Bool) (p d : ℤ) → signed b (p +ℤ signed b d) ≡ signed b p +ℤ d
signed_more true p d = omega (arith, ints)
signed_more false p d = omega (arith, ints)

module _ (cells : List Cell) (costs : List Costs) (side : Side) (f : Fenced cells costs side) where
  cell_less : (u : ℕ) → inner_of cells u ≡ true → u + 1 < length cells
  cell_less u i = omega (arith, f.high u i, f.stride)

  to_right : (u : ℕ) → head side.stride u 0 ≡ u + 1
  unfolding head
  to_right u = refl

  -- outside is no more steps away than there are cells to the end
  away_by : (k u : ℕ) → u + k ≡ length cells → (j : ℕ) × ((j ≤ k) × Away (view cells costs side) j u)
  away_by zero u e = (0, (omega arith, elim (cases_Bool (inner_of cells u)) [ inl i ↦ absurd (omega (arith, cell_less u i)) | inr i ↦ i ]))
  away_by (suc k) u e = elim (cases_Bool (inner_of cells u)) [
    | inl i ↦ (let r = away_by k (u + 1) (omega arith) in (suc r.0, (omega (arith, r.1.0), (i, (0, (omega arith, subst (Away (view cells costs side) r.0) (sym (to_right u)) r.1.1))))))
    | inr i ↦ (0, (omega arith, i))
  ]

  pub away : (u : ℕ) → inner_of cells u ≡ true → (j : ℕ) × ((j ≤ 263169) × Away (view cells costs side) j u)
  away u i =
      let r = away_by (length cells - u) u (omega (arith, cell_less u i)) in
      (r.0, (omega (arith, r.1.0, f.size), r.1.1))

  times : (j : ℕ) → j ≤ 263169 → 1000 * j ≤ 2 ^ 28
  times j l = omega arith

  pub bounded : Feasible (view cells costs side) → Bounded cells
  unfolding potential_in
  bounded w v = elim (cases_Bool (inner_of cells v)) [
    | inl i ↦ (let r = away v i in omega (arith, abs_signed side.back (potential_of cells v), potentials_bounded (view cells costs side) 1000 r.0 v w f.cost f.cost_back r.1.1, times r.0 r.1.0))
    | inr i ↦ omega (arith, ints, abs_signed side.back (potential_of cells v), ap nat_abs (w.outside v i))
  ]

  pub always : (within far : ℤ) (k : Search) → Feasible (view cells costs side) → Searched (view cells costs side) within far k → within ≡ pos (2 ^ 30) → k.bound <ℤ within
  always within far k w e is =
      let r = away k.source e.is_inner in
      always_finds (view cells costs side) within far k 1000 r.0 w e f.cost f.cost_back r.1.1 (twice r.0 r.1.0)
    where
      twice : (j : ℕ) → j ≤ 263169 → pos (2 * (1000 * j)) <ℤ within
      twice j l = let m : 2 * (1000 * j) < 2 ^ 30 = omega arith in omega (arith, ints, is)
