-- Laws of sums over a table, m wide and n high: row by row, and in each row over its members.
use Rattle.std.proofs.Common.{◌≡◌, ℕ, ◌+◌, ◌*◌, ◌<◌, ◌≤◌, ℤ, pos, ◌+ℤ◌, ◌*ℤ◌, ◌≤ℤ◌, ◌∙◌, arith}
use Rattle.sums.specs.Sum.{sum_to, sum_ℤ}
use Rattle.sums.proofs.Sum.{sum_ext, sum_le, sum_zero, sum_add, sum_scale, sum_zero_each, sum_at_most, member_le_sum, sum_ℤ_ext, sum_ℤ_le, sum_ℤ_add, sum_ℤ_scale_right, sum_ℤ_pos}

pub table_ext : (m n : ℕ) (g h : ℕ → ℕ → ℕ) → ((x y : ℕ) → x < m → y < n → g x y ≡ h x y) →
    sum_to n (λ y. sum_to m (λ x. g x y)) ≡ sum_to n (λ y. sum_to m (λ x. h x y))
table_ext m n g h e = sum_ext n (λ y. sum_to m (λ x. g x y)) (λ y. sum_to m (λ x. h x y)) (λ y l. sum_ext m (λ x. g x y) (λ x. h x y) (λ x k. e x y k l))

pub table_le : (m n : ℕ) (g h : ℕ → ℕ → ℕ) → ((x y : ℕ) → x < m → y < n → g x y ≤ h x y) →
    sum_to n (λ y. sum_to m (λ x. g x y)) ≤ sum_to n (λ y. sum_to m (λ x. h x y))
table_le m n g h e = sum_le n (λ y. sum_to m (λ x. g x y)) (λ y. sum_to m (λ x. h x y)) (λ y l. sum_le m (λ x. g x y) (λ x. h x y) (λ x k. e x y k l))

pub table_zero : (m n : ℕ) (g : ℕ → ℕ → ℕ) → ((x y : ℕ) → x < m → y < n → g x y ≡ 0) → sum_to n (λ y. sum_to m (λ x. g x y)) ≡ 0
table_zero m n g e = sum_zero n (λ y. sum_to m (λ x. g x y)) (λ y l. sum_zero m (λ x. g x y) (λ x k. e x y k l))

pub table_add : (m n : ℕ) (g h : ℕ → ℕ → ℕ) →
    sum_to n (λ y. sum_to m (λ x. g x y + h x y)) ≡ sum_to n (λ y. sum_to m (λ x. g x y)) + sum_to n (λ y. sum_to m (λ x. h x y))
table_add m n g h =
    sum_ext n (λ y. sum_to m (λ x. g x y + h x y)) (λ y. sum_to m (λ x. g x y) + sum_to m (λ x. h x y)) (λ y l. sum_add m (λ x. g x y) (λ x. h x y))
    ∙ sum_add n (λ y. sum_to m (λ x. g x y)) (λ y. sum_to m (λ x. h x y))

pub table_scale : (m n k : ℕ) (g : ℕ → ℕ → ℕ) → sum_to n (λ y. sum_to m (λ x. k * g x y)) ≡ k * sum_to n (λ y. sum_to m (λ x. g x y))
table_scale m n k g =
    sum_ext n (λ y. sum_to m (λ x. k * g x y)) (λ y. k * sum_to m (λ x. g x y)) (λ y l. sum_scale m k (λ x. g x y))
    ∙ sum_scale n k (λ y. sum_to m (λ x. g x y))

pub table_zero_each : (m n : ℕ) (g : ℕ → ℕ → ℕ) → sum_to n (λ y. sum_to m (λ x. g x y)) ≡ 0 → (x y : ℕ) → x < m → y < n → g x y ≡ 0
table_zero_each m n g e x y k l = sum_zero_each m (λ i. g i y) (sum_zero_each n (λ j. sum_to m (λ i. g i j)) e y l) x k

pub member_le_table : (m n x y : ℕ) (g : ℕ → ℕ → ℕ) → x < m → y < n → g x y ≤ sum_to n (λ j. sum_to m (λ i. g i j))
member_le_table m n x y g k l = omega (arith, member_le_sum m x (λ i. g i y) k, member_le_sum n y (λ j. sum_to m (λ i. g i j)) l)

pub table_at_most : (m n k : ℕ) (g : ℕ → ℕ → ℕ) → ((x y : ℕ) → x < m → y < n → g x y ≤ k) → sum_to n (λ y. sum_to m (λ x. g x y)) ≤ n * (m * k)
table_at_most m n k g e = sum_at_most n (m * k) (λ y. sum_to m (λ x. g x y)) (λ y l. sum_at_most m k (λ x. g x y) (λ x h. e x y h l))

pub table_ℤ_ext : (m n : ℕ) (g h : ℕ → ℕ → ℤ) → ((x y : ℕ) → x < m → y < n → g x y ≡ h x y) →
    sum_ℤ n (λ y. sum_ℤ m (λ x. g x y)) ≡ sum_ℤ n (λ y. sum_ℤ m (λ x. h x y))
table_ℤ_ext m n g h e = sum_ℤ_ext n (λ y. sum_ℤ m (λ x. g x y)) (λ y. sum_ℤ m (λ x. h x y)) (λ y l. sum_ℤ_ext m (λ x. g x y) (λ x. h x y) (λ x k. e x y k l))

pub table_ℤ_le : (m n : ℕ) (g h : ℕ → ℕ → ℤ) → ((x y : ℕ) → x < m → y < n → g x y ≤ℤ h x y) →
    sum_ℤ n (λ y. sum_ℤ m (λ x. g x y)) ≤ℤ sum_ℤ n (λ y. sum_ℤ m (λ x. h x y))
table_ℤ_le m n g h e = sum_ℤ_le n (λ y. sum_ℤ m (λ x. g x y)) (λ y. sum_ℤ m (λ x. h x y)) (λ y l. sum_ℤ_le m (λ x. g x y) (λ x. h x y) (λ x k. e x y k l))

pub table_ℤ_add : (m n : ℕ) (g h : ℕ → ℕ → ℤ) →
    sum_ℤ n (λ y. sum_ℤ m (λ x. g x y +ℤ h x y)) ≡ sum_ℤ n (λ y. sum_ℤ m (λ x. g x y)) +ℤ sum_ℤ n (λ y. sum_ℤ m (λ x. h x y))
table_ℤ_add m n g h =
    sum_ℤ_ext n (λ y. sum_ℤ m (λ x. g x y +ℤ h x y)) (λ y. sum_ℤ m (λ x. g x y) +ℤ sum_ℤ m (λ x. h x y)) (λ y l. sum_ℤ_add m (λ x. g x y) (λ x. h x y))
    ∙ sum_ℤ_add n (λ y. sum_ℤ m (λ x. g x y)) (λ y. sum_ℤ m (λ x. h x y))

pub table_ℤ_scale_right : (m n : ℕ) (k : ℤ) (g : ℕ → ℕ → ℤ) → sum_ℤ n (λ y. sum_ℤ m (λ x. g x y *ℤ k)) ≡ sum_ℤ n (λ y. sum_ℤ m (λ x. g x y)) *ℤ k
table_ℤ_scale_right m n k g =
    sum_ℤ_ext n (λ y. sum_ℤ m (λ x. g x y *ℤ k)) (λ y. sum_ℤ m (λ x. g x y) *ℤ k) (λ y l. sum_ℤ_scale_right m k (λ x. g x y))
    ∙ sum_ℤ_scale_right n k (λ y. sum_ℤ m (λ x. g x y))

pub table_ℤ_pos : (m n : ℕ) (g : ℕ → ℕ → ℕ) → sum_ℤ n (λ y. sum_ℤ m (λ x. pos (g x y))) ≡ pos (sum_to n (λ y. sum_to m (λ x. g x y)))
table_ℤ_pos m n g =
    sum_ℤ_ext n (λ y. sum_ℤ m (λ x. pos (g x y))) (λ y. pos (sum_to m (λ x. g x y))) (λ y l. sum_ℤ_pos m (λ x. g x y))
    ∙ sum_ℤ_pos n (λ y. sum_to m (λ x. g x y))
