-- What turns in a room cost, added up row by row, is what heights cost over expected steps.
use Rattle.std.proofs.Common.{◌≡◌, ℕ, suc, pred, ◌+◌, ◌-◌, ◌*◌, ◌<◌, List, length, get_or, ℤ, pos, nat_abs, sym, refl, ap, ◌∙◌, ap₂, sub-one, suc-mul, arith}
use Rattle.sums.specs.Sum.{sum_to}
use Rattle.sums.proofs.Sum.{sum_ext}
use Rattle.phase_field.specs.Field.{turns_in}
use Rattle.phase_field.specs.Model.{Part}
use Rattle.phase_field.specs.Model.{field_of}
use Rattle.phase_field.specs.declared.field.Field.{Field as code}
use Rattle.phase_field.proofs.Parts.{few_places, row_ends}
use Rattle.std.proofs.lemmas.List.{get_or_past}
use Rattle.phase_cost.specs.Steps.{heights_cost, all_steps, steps_in, more_right, more_below}
use Rattle.phase_turns.specs.Cost.{jump, RoomFits, line_cost, LineFits, way_cost, WayFits}
use Rattle.phase_turns.specs.Follow.{StepsSmall}

-- what a step costs, from where its price, its expected turns and the turns at its ends stand
abbrev pub paid : List ℕ → List ℤ → List ℤ → List ℤ → (p e u v : ℕ) → ℕ
paid ps es us vs p e u v = get_or ps p 0 * nat_abs (jump (get_or es e (pos 0)) (get_or us u (pos 0)) (get_or vs v (pos 0)))

pub line_all : (ps : List ℕ) (es us vs : List ℤ) → sum_to (length ps) (λ x. paid ps es us vs x x x x) ≡ line_cost ps es us vs
unfolding line_cost
line_all ps es us vs = refl

-- a line of one row of a way
abbrev pub row_paid : (w columns ahead : ℕ) → List ℕ → List ℤ → List ℤ → ℕ → ℕ
row_paid w columns ahead ps es ts y = sum_to columns (λ x. paid ps es ts ts (y * w + x) (y * w + x) (y * w + x) ((y * w + ahead) + x))

pub way_all : (w rows columns ahead : ℕ) (ps : List ℕ) (es ts : List ℤ) → sum_to rows (row_paid w columns ahead ps es ts) ≡ way_cost w rows columns ahead ps es ts
unfolding way_cost
way_all w rows columns ahead ps es ts = refl

pub row_is : (w columns ahead y : ℕ) (ps pr : List ℕ) (es er ts us vs : List ℤ) → Part (y * w) columns ps pr → Part (y * w) columns es er → Part (y * w) columns ts us → Part (y * w + ahead) columns ts vs →
    line_cost pr er us vs ≡ row_paid w columns ahead ps es ts y
row_is w columns ahead y ps pr es er ts us vs p e u v =
    sym (line_all pr er us vs) ∙ ap (λ (n : ℕ). sum_to n (λ x. paid pr er us vs x x x x)) p.long ∙ sum_ext columns _ _ same
  where
    same : (x : ℕ) → x < columns → paid pr er us vs x x x x ≡ paid ps es ts ts (y * w + x) (y * w + x) (y * w + x) ((y * w + ahead) + x)
    same x l =
        let a = p.at x 0 l in
        let b = e.at x (pos 0) l in
        let c = u.at x (pos 0) l in
        let d = v.at x (pos 0) l in
        cc

part_small : (from count : ℕ) (es er : List ℤ) → Part from count es er → StepsSmall es → StepsSmall er
part_small from count es er p s k = grind (arith, get_or_past, p.long, p.at k (pos 0), s (from + k))

pub line_fits : (w rows columns ahead y : ℕ) (ps pr : List ℕ) (es er ts us vs : List ℤ) → WayFits w rows columns ahead ps es ts → y < rows →
    Part (y * w) columns ps pr → Part (y * w) columns es er → Part (y * w) columns ts us → Part (y * w + ahead) columns ts vs → LineFits pr er us vs
line_fits w rows columns ahead y ps pr es er ts us vs f l p e u v = record {
  few = omega (arith, p.long, f.few_columns);
  expected_len = omega (arith, e.long, p.long);
  from_len = omega (arith, u.long, p.long);
  to_len = omega (arith, v.long, p.long);
  prices_small = λ x k. rw (p.at x 0 (omega (arith, p.long))) (f.prices_small (y * w + x));
  expected_small = part_small (y * w) columns es er e f.expected_small;
  from_most = λ x k. rw (u.at x (pos 0) (omega (arith, p.long))) (f.room_most (y * w + x) (omega (arith, f.reach y l, p.long)));
  to_most = λ x k. rw (v.at x (pos 0) (omega (arith, p.long))) (f.room_most ((y * w + ahead) + x) (omega (arith, f.reach y l, p.long)));
}

-- ---- over a field

module _ (f : code) (right below room : List ℤ) where
  right_is : way_cost f.wide f.high (f.wide - 1) 1 f.right right room ≡
      sum_to f.high (λ y. sum_to (pred f.wide) (λ x. get_or f.right (y * f.wide + x) 0 * nat_abs (more_right (steps_in (field_of f) right below) (turns_in f.wide room) x y)))
  unfolding way_cost more_right steps_in turns_in
  right_is =
      ap (λ (n : ℕ). sum_to f.high (row_paid f.wide n 1 f.right right room)) (sub-one f.wide)
      ∙ sum_ext f.high _ _ (λ y l. sum_ext (pred f.wide) _ _ (λ x k. ap (λ (i : ℕ). paid f.right right room room (y * f.wide + x) (y * f.wide + x) (y * f.wide + x) i) (omega arith)))

  below_is : way_cost f.wide (f.high - 1) f.wide f.wide f.below below room ≡
      sum_to (pred f.high) (λ y. sum_to f.wide (λ x. get_or f.below (y * f.wide + x) 0 * nat_abs (more_below (steps_in (field_of f) right below) (turns_in f.wide room) x y)))
  unfolding way_cost more_below steps_in turns_in
  below_is =
      ap (λ (n : ℕ). sum_to n (row_paid f.wide f.wide f.wide f.below below room)) (sub-one f.high)
      ∙ sum_ext (pred f.high) _ _ (λ y l. sum_ext f.wide _ _ (λ x k. ap (λ (i : ℕ). paid f.below below room room (y * f.wide + x) (y * f.wide + x) (y * f.wide + x) i) (omega arith)))

  pub ways_are : way_cost f.wide f.high (f.wide - 1) 1 f.right right room + way_cost f.wide (f.high - 1) f.wide f.wide f.below below room ≡
      heights_cost (steps_in (field_of f) right below) (turns_in f.wide room)
  unfolding heights_cost all_steps steps_in
  ways_are = ap₂ (λ (a b : ℕ). a + b) right_is below_is

  pub right_fits : StepsSmall right → length right ≡ 4096 → length f.right ≡ 4096 → RoomFits (field_of f) room → WayFits f.wide f.high (f.wide - 1) 1 f.right right room
  right_fits s l m r = record {
    few_rows = f.high_fits;
    few_columns = omega (arith, f.wide_fits);
    reach = λ y k. omega (arith, r.long, row_ends f.wide f.high y k, f.wide_some);
    room_len = omega (arith, r.long, few_places f.wide f.high f.wide_fits f.high_fits);
    prices_len = m;
    expected_len = l;
    prices_small = f.right_fits;
    expected_small = s;
    room_most = λ k b. r.most k (omega (arith, r.long));
  }

  pub below_fits : StepsSmall below → length below ≡ 4096 → length f.below ≡ 4096 → RoomFits (field_of f) room → WayFits f.wide (f.high - 1) f.wide f.wide f.below below room
  below_fits s l m r = record {
    few_rows = omega (arith, f.high_fits);
    few_columns = f.wide_fits;
    reach = λ y k. omega (arith, r.long, row_ends f.wide f.high (suc y) (omega (arith, k, f.high_some)), suc-mul y f.wide);
    room_len = omega (arith, r.long, few_places f.wide f.high f.wide_fits f.high_fits);
    prices_len = m;
    expected_len = l;
    prices_small = f.below_fits;
    expected_small = s;
    room_most = λ k b. r.most k (omega (arith, r.long));
  }
