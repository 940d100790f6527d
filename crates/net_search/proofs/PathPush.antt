-- Units that go along the path found, arc by arc from its end.
use Rattle.std.proofs.Common.{◌≡◌, ℕ, zero, suc, ◌+◌, ◌^◌, ◌<◌, ◌≤◌, ◌⊎◌, ℤ, pos, negsuc, ◌+ℤ◌, ◌-ℤ◌, neg_ℤ, nat_abs, ◌≤ℤ◌, ◌<ℤ◌, sym, refl, ap, ◌∙◌, inl, inr, arith}
use borrow.Author.Differences.{up}
use Rattle.std.proofs.lemmas.Int.{ints}
use Rattle.std.proofs.lemmas.Bool.{cases_eq}
use Rattle.sums.specs.Sum.{sum_ℤ, sum_to}
use Rattle.sums.proofs.Sum.{sum_change, member_le_sum, sum_ℤ_ext, sum_ℤ_add, sum_ℤ_neg}
use Rattle.sums.proofs.Points.{point_sum}
use Rattle.net_graph.specs.Graph.{Graph, at, IsNetwork, residual_capacity, reduced_cost, IsPseudoflow}
use Rattle.net_graph.specs.Sound.{State, Sound, supply, total_excess, outgoing, incoming, Later, Pushed}
use Rattle.net_graph.proofs.Points.{cases_lt_ℤ, at_same, at_other, unit_same, residual_same}
use Rattle.net_graph.proofs.Push.{pushed_flow, pushed_priced, pushed_other, pushed_here, pushed_back, pushed_outflow, pushed_leaving, pushed_coming, by_arc}
use Rattle.net_search.specs.Tree.{Tree}
use Rattle.net_search.specs.Path.{Step, IsShortestPath, IsPredecessor, here, back, Walking}

pub chain_on : (g : Graph) (t : Tree) (u v : ℕ) → (v ≡ t.source → ⊥) → IsPredecessor g t u v → IsPredecessor g t u (g.tail (t.pred v))
chain_on g t u v n here = back n here
chain_on g t u v n (back m c) = back m (chain_on g t (g.tail (t.pred u)) v n c)

-- a node on the path is where one stands, or is on the path to the node before
pub chain_split : (g : Graph) (t : Tree) (u v : ℕ) → IsPredecessor g t u v → (v ≡ u) ⊎ ((u ≡ t.source → ⊥) × IsPredecessor g t (g.tail (t.pred u)) v)
chain_split g t u v here = inl refl
chain_split g t u v (back m c) = inr (m, c)

-- ---- what is in excess

pub up_none : (z : ℤ) → z ≤ℤ pos 0 → up z ≡ 0
up_none (pos n) h = omega (arith, ints)
up_none (negsuc n) h = refl

pub up_some : (z : ℤ) → pos 0 ≤ℤ z → pos (up z) ≡ z
up_some (pos n) h = refl
up_some (negsuc n) h = absurd (omega (arith, ints))

-- the positive and the negative parts of terms that add up to 0
pub parts : (n : ℕ) (e : ℕ → ℤ) → sum_ℤ n e ≡ (pos (sum_to n (λ v. up (e v))) -ℤ pos (sum_to n (λ v. up (neg_ℤ (e v)))))
unfolding sum_ℤ sum_to
parts zero e = refl
parts (suc n) e = omega (arith, ints, parts n e, split (e n))
  where
    split : (z : ℤ) → z ≡ (pos (up z) -ℤ pos (up (neg_ℤ z)))
    split (pos zero) = refl
    split (pos (suc k)) = omega (arith, ints)
    split (negsuc k) = omega (arith, ints)

-- no excess is larger than what is left to go
pub excess_small : (g : Graph) (s : State) → Sound g s → (v : ℕ) → v < g.nodes → nat_abs (s.excess v) ≤ total_excess g s
unfolding total_excess
excess_small g s o v h = elim (cases_lt_ℤ (s.excess v) (pos 0)) [
  | inl l ↦ omega (arith, ints, up_some (neg_ℤ (s.excess v)) (omega (arith, ints)), member_le_sum g.nodes v (λ w. up (neg_ℤ (s.excess w))) h, parts g.nodes s.excess, o.even)
  | inr l ↦ omega (arith, ints, up_some (s.excess v) l, member_le_sum g.nodes v (λ w. up (s.excess w)) h)
]

pub flow_small : (g : Graph) → IsNetwork g → (x : ℕ → ℤ) → IsPseudoflow g x → (a : ℕ) → a < g.arcs → nat_abs (x a) ≤ 2 ^ 60
flow_small g w x f a h = omega (arith, ints, f.within a h, f.within (g.pair a) (w.arc a h).pair, f.opposite a h, (w.arc a h).limited, (w.arc (g.pair a) (w.arc a h).pair).limited)

-- ---- the walk

module _ (g : Graph) (w : IsNetwork g) (s : State) (o : Sound g s) (t : Tree) (f : IsShortestPath g s t) (d : ℤ) (more : pos 0 <ℤ d) where
  pub walk_begins : Walking g s s t t.target d
  walk_begins =
      record {
        node = f.target;
        on = inr refl;
        chain = here;
        flows = o.flows;
        priced = o.priced;
        untouched = λ b h p q. refl;
        moved = λ b h. omega arith;
        leaves = λ u. omega (arith, ints, more);
        leaves_before = λ u h. omega (arith, ints);
        comes = λ u. omega (arith, ints, more);
        comes_before = λ u h. omega (arith, ints);
        excess = λ v. omega (arith, ints);
        supplies = λ v. refl;
      }

  module _ (residuals : (u : ℕ) → IsPredecessor g t t.target u → (u ≡ t.source → ⊥) → d ≤ℤ residual_capacity g s.flow (t.pred u)) (s' s'' : State) (v : ℕ) (k : Walking g s s' t v d) (ns : v ≡ t.source → ⊥) (p : Pushed g s' s'' (t.pred v) d) where
    S : Step g s t v
    S = f.step v k.node k.on ns

    same : s'.flow (t.pred v) ≡ s.flow (t.pred v)
    same = k.untouched (t.pred v) S.arc (omega (arith, S.earlier)) (omega (arith, ap t.place S.ends))

    same_back : s'.flow (g.pair (t.pred v)) ≡ s.flow (g.pair (t.pred v))
    same_back = k.untouched (g.pair (t.pred v)) (w.arc (t.pred v) S.arc).pair (omega (arith, ap t.place ((w.arc (t.pred v) S.arc).turned ∙ S.ends))) (omega (arith, ap t.place (sym (w.arc (g.pair (t.pred v)) (w.arc (t.pred v) S.arc).pair).turned ∙ ap g.tail (w.arc (t.pred v) S.arc).back), S.earlier))

    fits : d ≤ℤ residual_capacity g s'.flow (t.pred v)
    fits = omega (arith, ints, residuals v k.chain ns, residual_same g s'.flow s.flow (t.pred v) same)

    tight : reduced_cost g s'.flow s.potential (t.pred v) ≡ pos 0
    tight = omega (arith, ints, S.tight, unit_same g s'.flow s.flow (t.pred v) same)

    moved' : (b : ℕ) → b < g.arcs → nat_abs (s''.flow b) ≤ nat_abs (s.flow b) + nat_abs d
    moved' = by_arc g w s'.flow s''.flow (t.pred v) S.arc d p.flow (λ b. b < g.arcs → nat_abs (s''.flow b) ≤ nat_abs (s.flow b) + nat_abs d)
        (λ h. omega (arith, ints, pushed_here g w s'.flow s''.flow (t.pred v) S.arc d p.flow, same))
        (λ h. omega (arith, ints, pushed_back g w s'.flow s''.flow (t.pred v) S.arc d p.flow, same_back))
        (λ b n m h. omega (arith, ints, pushed_other g w s'.flow s''.flow (t.pred v) S.arc d p.flow b n m, k.moved b h))

    -- an arc that lies before the tail is neither this one nor its pair
    untouched' : (b : ℕ) → b < g.arcs → t.place (g.tail b) ≤ t.place (g.tail (t.pred v)) → t.place (g.head b) ≤ t.place (g.tail (t.pred v)) → s''.flow b ≡ s.flow b
    untouched' b h q r =
        pushed_other g w s'.flow s''.flow (t.pred v) S.arc d p.flow b
        (λ e. omega (arith, r, S.earlier, ap (λ (c : ℕ). t.place (g.head c)) e, ap t.place S.ends))
        (λ e. omega (arith, q, S.earlier, ap (λ (c : ℕ). t.place (g.tail c)) e, ap t.place ((w.arc (t.pred v) S.arc).turned ∙ S.ends)))
        ∙ k.untouched b h (omega (arith, q, S.earlier)) (omega (arith, r, S.earlier))

    excess' : (u : ℕ) → s''.excess u ≡ ((s.excess u +ℤ at t.target d u) -ℤ at (g.tail (t.pred v)) d u)
    excess' u = omega (arith, ints, p.excess u, k.excess u, ap (λ (z : ℕ). at z d u) S.ends)

    supplies' : (u : ℕ) → supply g s'' u ≡ supply g s u
    supplies' u = omega (arith, ints, p.excess u, k.supplies u, pushed_outflow g w s'.flow s''.flow (t.pred v) S.arc d p.flow u)

    leaves' : (u : ℕ) → outgoing g s''.flow u ≤ℤ (outgoing g s'.flow u +ℤ at (g.tail (t.pred v)) d u)
    leaves' = pushed_leaving g w s'.flow s''.flow (t.pred v) S.arc d p.flow (omega (arith, ints, more))

    comes' : (u : ℕ) → incoming g s''.flow u ≤ℤ (incoming g s'.flow u +ℤ at v d u)
    comes' u = rw S.ends at (pushed_coming g w s'.flow s''.flow (t.pred v) S.arc d p.flow (omega (arith, ints, more)) u)

    leaves_all : (u : ℕ) → outgoing g s''.flow u ≤ℤ (outgoing g s.flow u +ℤ d)
    leaves_all u = elim (cases_eq u (g.tail (t.pred v))) [
      | inl e ↦ omega (arith, ints, leaves' u, at_same (g.tail (t.pred v)) u d e, k.leaves_before u (omega (arith, ap t.place e, S.earlier)))
      | inr n ↦ omega (arith, ints, leaves' u, at_other (g.tail (t.pred v)) u d n, k.leaves u)
    ]

    comes_all : (u : ℕ) → incoming g s''.flow u ≤ℤ (incoming g s.flow u +ℤ d)
    comes_all u = elim (cases_eq u v) [
      | inl e ↦ omega (arith, ints, comes' u, at_same v u d e, k.comes_before u (omega (arith, ap t.place e)))
      | inr n ↦ omega (arith, ints, comes' u, at_other v u d n, k.comes u)
    ]

    leaves_early : (u : ℕ) → t.place u < t.place (g.tail (t.pred v)) → outgoing g s''.flow u ≤ℤ outgoing g s.flow u
    leaves_early u h = omega (arith, ints, leaves' u, at_other (g.tail (t.pred v)) u d (λ e. omega (arith, h, ap t.place e)), k.leaves_before u (omega (arith, h, S.earlier)))

    comes_early : (u : ℕ) → t.place u ≤ t.place (g.tail (t.pred v)) → incoming g s''.flow u ≤ℤ incoming g s.flow u
    comes_early u h = omega (arith, ints, comes' u, at_other v u d (λ e. omega (arith, h, S.earlier, ap t.place e)), k.comes_before u (omega (arith, h, S.earlier)))

    pub walk_on : Walking g s s'' t (g.tail (t.pred v)) d
    walk_on =
        record {
          node = (w.arc (t.pred v) S.arc).tail;
          on = inl S.from;
          chain = chain_on g t t.target v ns k.chain;
          flows = pushed_flow g w s'.flow s''.flow (t.pred v) S.arc d p.flow k.flows (omega (arith, ints, more)) fits;
          priced = pushed_priced g w s'.flow s''.flow (t.pred v) S.arc d p.flow k.flows (omega (arith, ints, more)) fits s.potential more k.priced tight;
          untouched = untouched';
          moved = moved';
          leaves = leaves_all;
          leaves_before = leaves_early;
          comes = comes_all;
          comes_before = comes_early;
          excess = excess';
          supplies = supplies';
        }

  -- at the source: all is as it was but for the ends
  module _ (s' : State) (k : Walking g s s' t t.source d) (same : s'.potential ≡ s.potential) (enough : d ≤ℤ s.excess t.source) (wanted : d ≤ℤ neg_ℤ (s.excess t.target)) where
    ends_apart : t.source ≡ t.target → ⊥
    ends_apart e = omega (arith, ints, ap s.excess e, enough, more, wanted)

    at_source : s'.excess t.source ≡ (s.excess t.source -ℤ d)
    at_source = omega (arith, ints, k.excess t.source, at_same t.source t.source d refl, at_other t.target t.source d ends_apart)

    at_target : s'.excess t.target ≡ (s.excess t.target +ℤ d)
    at_target = omega (arith, ints, k.excess t.target, at_same t.target t.target d refl, at_other t.source t.target d (λ e. ends_apart (sym e)))

    elsewhere : (v : ℕ) → (v ≡ t.source → ⊥) → (v ≡ t.target → ⊥) → s'.excess v ≡ s.excess v
    elsewhere v n m = omega (arith, ints, k.excess v, at_other t.source v d n, at_other t.target v d m)

    by_node : (P : ℕ → Type 0) → P t.source → P t.target → ((v : ℕ) → (v ≡ t.source → ⊥) → (v ≡ t.target → ⊥) → P v) → (v : ℕ) → P v
    by_node P x y z v = elim (cases_eq v t.source) [
      | inl e ↦ rw e x
      | inr n ↦ elim (cases_eq v t.target) [ inl e ↦ rw e y | inr m ↦ z v n m ]
    ]

    kept : (v : ℕ) → v < g.nodes → (v ≡ t.source → ⊥) → up (s.excess v) ≡ up (s'.excess v)
    kept v h n = elim (cases_eq v t.target) [
      | inl e ↦ rw e (up_none (s.excess t.target) (omega (arith, ints, wanted, more)) ∙ sym (up_none (s'.excess t.target) (omega (arith, ints, at_target, wanted))))
      | inr m ↦ ap up (sym (elsewhere v n m))
    ]

    pub fewer : pos (total_excess g s') ≡ (pos (total_excess g s) -ℤ d)
    unfolding total_excess
    fewer = omega (arith, ints, sum_change g.nodes t.source (λ v. up (s.excess v)) (λ v. up (s'.excess v)) f.source kept, at_source, up_some (s.excess t.source) (omega (arith, ints, enough, more)), up_some (s'.excess t.source) (omega (arith, ints, enough, at_source)))

    even' : sum_ℤ g.nodes s'.excess ≡ pos 0
    even' =
        omega (arith, ints, agree, sum_ℤ_add g.nodes (λ v. s.excess v +ℤ at t.target d v) (λ v. neg_ℤ (at t.source d v)), sum_ℤ_add g.nodes s.excess (at t.target d), sum_ℤ_neg g.nodes (at t.source d), point_sum g.nodes t.target d f.target, point_sum g.nodes t.source d f.source, o.even)
      where
        agree : sum_ℤ g.nodes s'.excess ≡ sum_ℤ g.nodes (λ v. (s.excess v +ℤ at t.target d v) +ℤ neg_ℤ (at t.source d v))
        agree = sum_ℤ_ext g.nodes s'.excess (λ v. (s.excess v +ℤ at t.target d v) +ℤ neg_ℤ (at t.source d v)) (λ v h. k.excess v)

    pub walked_sound : Sound g s'
    walked_sound =
        record {
          flows = k.flows;
          priced = rw same k.priced;
          deficit = rw same (by_node (λ v. v < g.nodes → s'.excess v <ℤ pos 0 → s.potential v ≡ pos 0)
              (λ h e. absurd (omega (arith, ints, e, at_source, enough)))
              (λ h e. o.deficit t.target h f.deficit)
              (λ v n m h e. o.deficit v h (omega (arith, ints, e, elsewhere v n m))));
          bounded = rw same o.bounded;
          even = even';
          few = omega (arith, ints, fewer, o.few, more);
        }

    pub walked_later : Later g s s'
    walked_later =
        record {
          supplies = λ v h. k.supplies v;
          moved = λ a h. omega (arith, ints, k.moved a h, fewer, more);
          leaves = λ v. omega (arith, ints, k.leaves v, fewer);
          comes = λ v. omega (arith, ints, k.comes v, fewer);
        }

    -- a node with nothing in excess gets nothing
    pub walked_quiet : (v : ℕ) → v < g.nodes → s.excess v ≤ℤ pos 0 → s'.excess v ≤ℤ pos 0
    walked_quiet = by_node (λ v. v < g.nodes → s.excess v ≤ℤ pos 0 → s'.excess v ≤ℤ pos 0)
        (λ h e. omega (arith, ints, at_source, e, more))
        (λ h e. omega (arith, ints, at_target, wanted))
        (λ v n m h e. omega (arith, ints, elsewhere v n m, e))
