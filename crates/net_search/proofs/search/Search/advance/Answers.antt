use Rattle.std.proofs.Common.{length, ap, inl, inr, arith}
use Rattle.std.proofs.lemmas.Int.{ints}
use Rattle.net_graph.proofs.Points.{cases_lt_ℤ}
use Rattle.net_search.specs.Label.{infinity}
use Rattle.net_search.specs.Tree.{tree}
use Rattle.net_search.proofs.Listed.{met_is}
use Rattle.net_search.proofs.search.Search.advance.Goals as goal

pub returns-then-self-d-clause-ended : goal.returns-then-self-d-clause-ended
returns-then-self-d-clause-ended c =
    let s = c.args.self.now in let t = tree s in
    λ v h p. elim (cases_lt_ℤ (t.distance v) infinity) [
      | inl f ↦ elim (met_is (length s.order.now) t.distance t.place t.order t.frontier t.reached t.waiting s.listed v h f) [
        | inl q ↦ absurd (omega (arith, p, q))
        | inr q ↦ omega (arith, ints, c.nearest-k.ensures.least q.0 q.1, ap t.distance q.2, c.if-self-d.true)
      ]
      | inr f ↦ omega (arith, ints, f, c.requires.bounded)
    ]

pub returns-clause-advanced : goal.returns-clause-advanced
returns-clause-advanced c =
    let s = c.args.self.now in let t = tree s in let r = c.reach-u.ensures.reached in let k = c.nearest-k.result in let u_is = c.reach-u.ensures.node in
    record {
      node = omega (arith, u_is, s.listed.node k c.nearest-k.ensures.waits);
      was = rw u_is (s.listed.late k c.nearest-k.ensures.waits);
      nearer = rw u_is (omega (arith, ints, c.if-self-d.false));
      least = λ v h p. rw u_is (elim (cases_lt_ℤ (t.distance v) infinity) [
        | inl f ↦ elim (met_is (length s.order.now) t.distance t.place t.order t.frontier t.reached t.waiting s.listed v h f) [
          | inl q ↦ absurd (omega (arith, p, q))
          | inr q ↦ omega (arith, ints, c.nearest-k.ensures.least q.0 q.1, ap t.distance q.2)
        ]
        | inr f ↦ omega (arith, ints, f, c.if-self-d.false, c.requires.bounded)
      ]);
      step = record {
        listed = r.listed;
        here = r.here;
        kept = r.kept;
        reached = r.reached;
        distance = r.distance;
        pred = r.pred;
        source = r.source;
        radius = r.radius;
        bound = r.bound;
        target = r.target;
      };
      last_distance = rw u_is (omega (arith, ints));
    }
