-- Forests: nothing found, one node found, all found.
use Rattle.std.proofs.Common.{◌≡◌, ℕ, ◌+◌, ◌<◌, ◌≤◌, ◌⊎◌, List, pos, sym, refl, ap, ◌∙◌, inl, inr, arith}
use Rattle.std.proofs.lemmas.Bool.{cases_eq, cases_lt, lt-ltb, le-ltb}
use Rattle.sums.specs.Sum.{sum_to}
use Rattle.sums.proofs.Sum.{sum_change, sum_ext, sum_const, member_le_sum, sum_zero}
use Rattle.net_graph.specs.Graph.{Graph, IsNetwork}
use Rattle.net_graph.proofs.Points.{head_pair}
use Rattle.net_graph.specs.Order.{node_at}
use Rattle.net_forest.specs.Forest.{root_of, pred_of, place_of, no_tree_node, unfound, HasParent, Free, Within, Closed, Single, Kept, Growing, Grows, Forest, NodeAdded}
use Rattle.net_forest.specs.declared.tree_node.TreeNode.{TreeNode}

unfound_no : (n p : ℕ) → p < n → unfound n p ≡ 0
unfound_no n p h = rw (lt-ltb p n h)

unfound_yes : (n p : ℕ) → n ≤ p → unfound n p ≡ 1
unfound_yes n p h = rw (le-ltb p n h)

pub few : (g : Graph) (root pred place order : ℕ → ℕ) (found : ℕ) → Growing g root pred place order found → found ≤ g.nodes
few g root pred place order found i = omega (arith, i.count)

-- there is a place for a node that was not found
pub unfound_left : (g : Graph) (root pred place order : ℕ → ℕ) (found : ℕ) → Growing g root pred place order found → (v : ℕ) → v < g.nodes → found ≤ place v → found < g.nodes
unfound_left g root pred place order found i v h l =
    omega (arith, i.count, member_le_sum g.nodes v (λ w. unfound g.nodes (place w)) h, unfound_yes g.nodes (place v) (omega (arith, i.beyond v h l)))

pub none_found : (g : Graph) (tree_nodes : List TreeNode) (order : List ℕ) → ((v : ℕ) → v < g.nodes → place_of tree_nodes v ≡ g.nodes) → Grows g tree_nodes order 0
none_found g tree_nodes order h =
    record {
      ordered = λ k l. absurd (omega arith);
      back = λ k l. absurd (omega arith);
      there = λ v l p. absurd (omega arith);
      beyond = λ v l p. h v l;
      is_node = λ v l p. absurd (omega arith);
      rooted = λ v l p. absurd (omega arith);
      at_root = λ v l p. absurd (omega arith);
      hangs = λ v l p n. absurd (omega arith);
      count = omega (arith, sum_ext g.nodes (λ v. unfound g.nodes (place_of tree_nodes v)) (λ _. 1) (λ v l. unfound_yes g.nodes (place_of tree_nodes v) (omega (arith, h v l))), sum_const g.nodes 1);
    }

-- arc a costs nothing in either direction, and leads from a node of the tree of r to v
pub record Leads (g : Graph) (root place : ℕ → ℕ) (found a v r : ℕ) : Type 0 where
  pub arc : a < g.arcs
  pub ends : g.head a ≡ v
  pub free : g.cost a ≡ pos 0
  pub free_back : g.cost (g.pair a) ≡ pos 0
  pub from : place (g.tail a) < found
  pub same : root (g.tail a) ≡ r

-- node v is found, as a root or by an arc
module _ (g : Graph) (w : IsNetwork g) (root pred place order root' pred' place' order' : ℕ → ℕ) (found found' v r a : ℕ) (i : Growing g root pred place order found) (h : v < g.nodes) (new : found ≤ place v)
    (root_here : root' v ≡ r) (pred_here : pred' v ≡ a) (place_here : place' v ≡ found)
    (root_kept : (u : ℕ) → (u ≡ v → ⊥) → root' u ≡ root u) (pred_kept : (u : ℕ) → (u ≡ v → ⊥) → pred' u ≡ pred u) (place_kept : (u : ℕ) → (u ≡ v → ⊥) → place' u ≡ place u)
    (last : order' found ≡ v) (before : (k : ℕ) → (k ≡ found → ⊥) → order' k ≡ order k) (more : found' ≡ found + 1) (by : (r ≡ v) ⊎ Leads g root place found a v r) where
  more_unfound : found < g.nodes
  more_unfound = unfound_left g root pred place order found i v h new

  other : (u : ℕ) → place u < found → u ≡ v → ⊥
  other u l e = omega (arith, ap place e)

  was : (u : ℕ) → u < g.nodes → place' u < found' → (u ≡ v → ⊥) → place u < found
  was u l p n = elim (cases_lt (place u) found) [
    | inl q ↦ q
    | inr q ↦ absurd (omega (arith, place_kept u n, i.beyond u l q, more_unfound, more))
  ]

  same_root : (u : ℕ) → place u < found → root' u ≡ root u
  same_root u l = root_kept u (other u l)

  same_place : (u : ℕ) → place u < found → place' u ≡ place u
  same_place u l = place_kept u (other u l)

  root_is : (r ≡ v) ⊎ ((r < g.nodes) × (place r < found) × (root r ≡ r))
  root_is = elim by [
    | inl e ↦ inl e
    | inr q ↦ inr (
      omega (arith, q.same, i.is_node (g.tail a) (w.arc a q.arc).tail q.from),
      omega (arith, ap place q.same, i.rooted (g.tail a) (w.arc a q.arc).tail q.from),
      ap root (sym q.same) ∙ (i.at_root (g.tail a) (w.arc a q.arc).tail q.from ∙ q.same),
    )
  ]

  hangs' : (u : ℕ) → u < g.nodes → place' u < found' → (root' u ≡ u → ⊥) → HasParent g root' pred' place' u
  hangs' u l p n = elim (cases_eq u v) [
    | inl e ↦ elim by [
      | inl q ↦ absurd (n (ap root' e ∙ (root_here ∙ (q ∙ sym e))))
      | inr q ↦ rw e (record {
        arc = rw pred_here q.arc;
        ends = rw pred_here q.ends;
        free = rw pred_here q.free;
        free_back = rw pred_here q.free_back;
        earlier = rw pred_here (omega (arith, same_place (g.tail a) q.from, place_here, q.from));
        same = rw pred_here (same_root (g.tail a) q.from ∙ (q.same ∙ sym root_here));
      })
    ]
    | inr x ↦ (let H = i.hangs u l (was u l p x) (λ e. n (root_kept u x ∙ e)) in
        let V = pred_kept u x in
        let t : place (g.tail (pred u)) < found = omega (arith, H.earlier, was u l p x) in
        record {
          arc = rw V H.arc;
          ends = rw V H.ends;
          free = rw V H.free;
          free_back = rw V H.free_back;
          earlier = rw V (omega (arith, same_place (g.tail (pred u)) t, place_kept u x, H.earlier));
          same = rw V (same_root (g.tail (pred u)) t ∙ (H.same ∙ sym (root_kept u x)));
        })
  ]

  pub one_found : Growing g root' pred' place' order' found'
  one_found =
      record {
        ordered = λ k l. elim (cases_eq k found) [
          | inl e ↦ omega (arith, ap order' e, last, h)
          | inr x ↦ omega (arith, before k x, i.ordered k (omega (arith, l, x, more)))
        ];
        back = λ k l. elim (cases_eq k found) [
          | inl e ↦ ap place' (ap order' e ∙ last) ∙ (place_here ∙ sym e)
          | inr x ↦ (let p : k < found = omega (arith, l, x, more) in
              ap place' (before k x) ∙ (same_place (order k) (omega (arith, i.back k p, p)) ∙ i.back k p))
        ];
        there = λ u l p. elim (cases_eq u v) [
          | inl e ↦ ap order' (ap place' e ∙ place_here) ∙ (last ∙ sym e)
          | inr x ↦ (let q = was u l p x in ap order' (place_kept u x) ∙ (before (place u) (λ e. omega (arith, e, q)) ∙ i.there u l q))
        ];
        beyond = λ u l p. elim (cases_eq u v) [
          | inl e ↦ absurd (omega (arith, ap place' e, place_here, more))
          | inr x ↦ place_kept u x ∙ i.beyond u l (omega (arith, place_kept u x, more))
        ];
        is_node = λ u l p. elim (cases_eq u v) [
          | inl e ↦ elim root_is [ inl q ↦ omega (arith, ap root' e, root_here, q, h) | inr q ↦ omega (arith, ap root' e, root_here, q.0) ]
          | inr x ↦ omega (arith, root_kept u x, i.is_node u l (was u l p x))
        ];
        rooted = λ u l p. elim (cases_eq u v) [
          | inl e ↦ elim root_is [
            | inl q ↦ omega (arith, ap place' (ap root' e ∙ (root_here ∙ q)), place_here, more)
            | inr q ↦ omega (arith, ap place' (ap root' e ∙ root_here), same_place r q.1, q.1, more)
          ]
          | inr x ↦ (let q = i.rooted u l (was u l p x) in omega (arith, ap place' (root_kept u x), same_place (root u) q, q, more))
        ];
        at_root = λ u l p. elim (cases_eq u v) [
          | inl e ↦ elim root_is [
            | inl q ↦ ap root' (ap root' e ∙ (root_here ∙ (q ∙ sym e)))
            | inr q ↦ ap root' (ap root' e ∙ root_here) ∙ (same_root r q.1 ∙ (q.2 ∙ sym (ap root' e ∙ root_here)))
          ]
          | inr x ↦ (let q = was u l p x in
              ap root' (root_kept u x) ∙ (same_root (root u) (i.rooted u l q) ∙ (i.at_root u l q ∙ sym (root_kept u x))))
        ];
        hangs = hangs';
        count = omega (
          arith,
          i.count,
          more,
          sum_change g.nodes v (λ u. unfound g.nodes (place u)) (λ u. unfound g.nodes (place' u)) h (λ u l x. ap (unfound g.nodes) (sym (place_kept u x))),
          unfound_yes g.nodes (place v) (omega (arith, i.beyond v h new)),
          unfound_no g.nodes (place' v) (omega (arith, place_here, more_unfound)),
        );
      }

-- the same of lists
pub added_grows : (g : Graph) → IsNetwork g → (tree_nodes tree_nodes' : List TreeNode) (order order' : List ℕ) (found found' v : ℕ) (node : TreeNode) → Grows g tree_nodes order found → v < g.nodes → found ≤ place_of tree_nodes v →
    node.place ≡ found → (node.root ≡ v) ⊎ Leads g (root_of tree_nodes) (place_of tree_nodes) found node.pred v node.root → NodeAdded tree_nodes tree_nodes' order order' found found' v node → Grows g tree_nodes' order' found'
added_grows g w tree_nodes tree_nodes' order order' found found' v node i h new at by a =
    one_found g w (root_of tree_nodes) (pred_of tree_nodes) (place_of tree_nodes) (node_at order) (root_of tree_nodes') (pred_of tree_nodes') (place_of tree_nodes') (node_at order') found found' v node.root node.pred i h new
    (ap (λ (b : TreeNode). b.root) (a.here no_tree_node)) (ap (λ (b : TreeNode). b.pred) (a.here no_tree_node)) (ap (λ (b : TreeNode). b.place) (a.here no_tree_node) ∙ at)
    (λ u x. ap (λ (b : TreeNode). b.root) (a.kept u no_tree_node x)) (λ u x. ap (λ (b : TreeNode). b.pred) (a.kept u no_tree_node x)) (λ u x. ap (λ (b : TreeNode). b.place) (a.kept u no_tree_node x))
    a.last a.before a.more by

-- a node that was found keeps its place
pub still_found : (g : Graph) (tree_nodes tree_nodes' : List TreeNode) (order order' : List ℕ) (found found' : ℕ) → Grows g tree_nodes order found → Grows g tree_nodes' order' found' → Kept g tree_nodes tree_nodes' order order' found found' →
    (v : ℕ) → v < g.nodes → place_of tree_nodes v < found → place_of tree_nodes' v ≡ place_of tree_nodes v
still_found g tree_nodes tree_nodes' order order' found found' i j k v h l =
    ap (place_of tree_nodes') (sym (k.order_kept (place_of tree_nodes v) l ∙ i.there v h l)) ∙ j.back (place_of tree_nodes v) (omega (arith, k.more, l))

-- one that was not has another place
still_new : (g : Graph) (tree_nodes tree_nodes' : List TreeNode) (order order' : List ℕ) (found found' : ℕ) → Grows g tree_nodes order found → Grows g tree_nodes' order' found' → Kept g tree_nodes tree_nodes' order order' found found' →
    (v : ℕ) → v < g.nodes → place_of tree_nodes' v < found → place_of tree_nodes v < found
still_new g tree_nodes tree_nodes' order order' found found' i j k v h l =
    rw (sym (j.there v h (omega (arith, l, k.more))) ∙ k.order_kept (place_of tree_nodes' v) l) (omega (arith, i.back (place_of tree_nodes' v) l, l))

pub kept_none : (g : Graph) (tree_nodes : List TreeNode) (order : List ℕ) (found : ℕ) → Kept g tree_nodes tree_nodes order order found found
kept_none g tree_nodes order found = record { more = omega arith; order_kept = λ k l. refl; root = λ v h l. refl }

pub kept_more : (g : Graph) (b b' b'' : List TreeNode) (o o' o'' : List ℕ) (f f' f'' : ℕ) → Grows g b o f → Grows g b' o' f' → Kept g b b' o o' f f' → Kept g b' b'' o' o'' f' f'' → Kept g b b'' o o'' f f''
kept_more g b b' b'' o o' o'' f f' f'' i j k m =
    record {
      more = omega (arith, k.more, m.more);
      order_kept = λ p l. m.order_kept p (omega (arith, l, k.more)) ∙ k.order_kept p l;
      root = λ v h l. m.root v h (omega (arith, still_found g b b' o o' f f' i j k v h l, l, k.more)) ∙ k.root v h l;
    }

pub added_kept : (g : Graph) (b b' : List TreeNode) (o o' : List ℕ) (f f' v : ℕ) (node : TreeNode) → f ≤ place_of b v → NodeAdded b b' o o' f f' v node → Kept g b b' o o' f f'
added_kept g b b' o o' f f' v node new a =
    record {
      more = omega (arith, a.more);
      order_kept = λ k l. a.before k (λ e. omega (arith, e, l));
      root = λ u h l. ap (λ (x : TreeNode). x.root) (a.kept u no_tree_node (λ e. omega (arith, ap (place_of b) e, l, new)));
    }

-- ---- trees as large as they can be

-- where nothing is new, what was one tree's is
pub single_none : (g : Graph) (root place : ℕ → ℕ) (found r : ℕ) → Single g root place found found r
single_none g root place found r v h l p = absurd (omega (arith, l, p))

-- the one that is new is v
pub single_added : (g : Graph) (b b' : List TreeNode) (o o' : List ℕ) (f f' v : ℕ) (node : TreeNode) → Grows g b' o' f' → NodeAdded b b' o o' f f' v node → Single g (root_of b') (place_of b') f' f node.root
single_added g b b' o o' f f' v node j a u h l p =
    ap (root_of b') (sym (j.there u h p) ∙ (ap (node_at o') here ∙ a.last)) ∙ ap (λ (x : TreeNode). x.root) (a.here no_tree_node)
  where
    here : place_of b' u ≡ f
    here = omega (arith, l, p, a.more)

pub within_added : (g : Graph) (b b' : List TreeNode) (o o' : List ℕ) (f f' a : ℕ) (node : TreeNode) → node.place ≡ f → NodeAdded b b' o o' f f' (g.head a) node → Within g (root_of b') (place_of b') f' node.root a
within_added g b b' o o' f f' a node at x =
    record {
      reached = omega (arith, ap (λ (y : TreeNode). y.place) (x.here no_tree_node), at, x.more);
      same = ap (λ (y : TreeNode). y.root) (x.here no_tree_node);
    }

-- ---- the arcs of a node, one after the other

-- of the arcs of node u those before `upto` lead to its tree; all that was found meanwhile is of it
pub record Scanning (g : Graph) (b b' : List TreeNode) (found found' u upto : ℕ) : Type 0 where
  pub single : Single g (root_of b') (place_of b') found' found (root_of b u)
  pub within : (a : ℕ) → a < g.arcs → g.tail a ≡ u → a < upto → Free g a → Within g (root_of b') (place_of b') found' (root_of b u) a

module _ (g : Graph) (w : IsNetwork g) (b b' b'' : List TreeNode) (o o' o'' : List ℕ) (f f' f'' u : ℕ) (i : Grows g b o f) (j : Grows g b' o' f') (k : Kept g b b' o o' f f') (h : u < g.nodes) (l : place_of b u < f)
    (closed : Closed g (root_of b) (place_of b) f (place_of b u)) (single : Single g (root_of b) (place_of b) f (place_of b u) (root_of b u)) where
  -- what an arc that costs nothing leads to is of the tree, if it is found
  pub together : (a : ℕ) → a < g.arcs → g.tail a ≡ u → Single g (root_of b') (place_of b') f' f (root_of b u) → Free g a → place_of b' (g.head a) < f' → root_of b' (g.head a) ≡ root_of b' (g.tail a)
  together a la t fresh free p = of_tree ∙ sym (ap (root_of b') t ∙ k.root u h l)
    where
      v : ℕ
      v = g.head a

      lv : v < g.nodes
      lv = (w.arc a la).head

      turned : Free g (g.pair a)
      turned = record { along = free.back; back = ap g.cost (w.arc a la).back ∙ free.along }

      before : place_of b v < place_of b u → root_of b v ≡ root_of b u
      before q =
          let W = closed (g.pair a) (w.arc a la).pair (omega (arith, ap (place_of b) (w.arc a la).turned, q)) turned in
          sym (ap (root_of b) (sym (head_pair g a w la ∙ t)) ∙ (W.same ∙ ap (root_of b) (w.arc a la).turned))

      old : place_of b v < f → root_of b' v ≡ root_of b u
      old q = k.root v lv q ∙ elim (cases_lt (place_of b v) (place_of b u)) [ inl r ↦ before r | inr r ↦ single v lv r q ]

      of_tree : root_of b' v ≡ root_of b u
      of_tree = elim (cases_lt (place_of b' v) f) [
        | inl q ↦ old (still_new g b b' o o' f f' i j k v lv q)
        | inr q ↦ fresh v lv q p
      ]

  -- one arc more
  pub scanned_on : (a : ℕ) → a < g.arcs → g.tail a ≡ u → Scanning g b b' f f' u a → Grows g b'' o'' f'' → Kept g b' b'' o' o'' f' f'' → Single g (root_of b'') (place_of b'') f'' f' (root_of b' (g.tail a)) →
      (Free g a → Within g (root_of b'') (place_of b'') f'' (root_of b' (g.tail a)) a) → Scanning g b b'' f f'' u (a + 1)
  scanned_on a la t s m n fresh reached =
      record {
        single = λ v lv p q. elim (cases_lt (place_of b'' v) f') [
          | inl r ↦ (let x = still_new g b' b'' o' o'' f' f'' j m n v lv r in
              n.root v lv x ∙ s.single v lv (omega (arith, p, still_found g b' b'' o' o'' f' f'' j m n v lv x)) x)
          | inr r ↦ fresh v lv r q ∙ root_is
        ];
        within = λ c lc tc below free. elim (cases_eq c a) [
          | inl e ↦ (let W = reached (rw e at free) in rw e (record { reached = W.reached; same = W.same ∙ root_is }))
          | inr x ↦ (let W = s.within c lc tc (omega (arith, below, x)) free in
              let lv = (w.arc c lc).head in
              record {
                reached = omega (arith, W.reached, still_found g b' b'' o' o'' f' f'' j m n (g.head c) lv W.reached, n.more);
                same = n.root (g.head c) lv W.reached ∙ W.same;
              })
        ];
      }
    where
      root_is : root_of b' (g.tail a) ≡ root_of b u
      root_is = ap (root_of b') t ∙ k.root u h l

  -- the nodes up to this one are done
  pub scanned_closed : (upto : ℕ) → g.first (u + 1) ≤ upto → Scanning g b b' f f' u upto → Closed g (root_of b') (place_of b') f' (place_of b u + 1)
  scanned_closed upto all s a la p free = elim (cases_eq (g.tail a) u) [
    | inl e ↦ (let W = s.within a la e (omega (arith, all, (w.arc a la).below, ap (λ (v : ℕ). g.first (v + 1)) e)) free in
        record { reached = W.reached; same = W.same ∙ sym (ap (root_of b') e ∙ k.root u h l) })
    | inr x ↦ by (still_new g b b' o o' f f' i j k (g.tail a) lt (omega (arith, p, l))) x
  ]
    where
      lt : g.tail a < g.nodes
      lt = (w.arc a la).tail

      by : place_of b (g.tail a) < f → (g.tail a ≡ u → ⊥) → Within g (root_of b') (place_of b') f' (root_of b' (g.tail a)) a
      by q x =
          let at = still_found g b b' o o' f f' i j k (g.tail a) lt q in
          let W = closed a la (before at) free in
          let lv = (w.arc a la).head in
          record {
            reached = omega (arith, W.reached, still_found g b b' o o' f f' i j k (g.head a) lv W.reached, k.more);
            same = k.root (g.head a) lv W.reached ∙ (W.same ∙ sym (k.root (g.tail a) lt q));
          }
        where
          before : place_of b' (g.tail a) ≡ place_of b (g.tail a) → place_of b (g.tail a) < place_of b u
          before at = elim (cases_eq (place_of b (g.tail a)) (place_of b u)) [
            | inl e ↦ absurd (x (sym (i.there (g.tail a) lt q) ∙ (ap (node_at o) e ∙ i.there u h l)))
            | inr y ↦ omega (arith, p, at, y)
          ]

  pub scanned_single : (upto : ℕ) → Scanning g b b' f f' u upto → Single g (root_of b') (place_of b') f' (place_of b u) (root_of b u)
  scanned_single upto s v lv p q = elim (cases_lt (place_of b' v) f) [
    | inl r ↦ (let x = still_new g b b' o o' f f' i j k v lv r in
        k.root v lv x ∙ single v lv (omega (arith, p, still_found g b b' o o' f f' i j k v lv x)) x)
    | inr r ↦ s.single v lv r q
  ]

-- ---- the nodes of a tree, and all

-- with one node more all that was closed is
pub closed_kept : (g : Graph) (w : IsNetwork g) (b b' : List TreeNode) (o o' : List ℕ) (f f' : ℕ) → Grows g b o f → Grows g b' o' f' → Kept g b b' o o' f f' → Closed g (root_of b) (place_of b) f f → Closed g (root_of b') (place_of b') f' f
closed_kept g w b b' o o' f f' i j k closed a la p free =
    let lt = (w.arc a la).tail in
    let lv = (w.arc a la).head in
    let q = still_new g b b' o o' f f' i j k (g.tail a) lt p in
    let W = closed a la q free in
    record {
      reached = omega (arith, W.reached, still_found g b b' o o' f f' i j k (g.head a) lv W.reached, k.more);
      same = k.root (g.head a) lv W.reached ∙ (W.same ∙ sym (k.root (g.tail a) lt q));
    }

pub all_found : (g : Graph) → IsNetwork g → (tree_nodes : List TreeNode) (order : List ℕ) (found : ℕ) → Grows g tree_nodes order found → Closed g (root_of tree_nodes) (place_of tree_nodes) found found → ((v : ℕ) → v < g.nodes → place_of tree_nodes v < found) → Forest g tree_nodes order
all_found g w tree_nodes order found i closed all =
    record {
      ordered = λ k l. i.ordered k (omega (arith, is, l));
      back = λ k l. i.back k (omega (arith, is, l));
      placed = λ v l. omega (arith, is, all v l);
      there = λ v l. i.there v l (all v l);
      is_node = λ v l. i.is_node v l (all v l);
      at_root = λ v l. i.at_root v l (all v l);
      hangs = λ v l. i.hangs v l (all v l);
      largest = λ a l free. (closed a l (all (g.tail a) (w.arc a l).tail) free).same;
    }
  where
    none : sum_to g.nodes (λ v. unfound g.nodes (place_of tree_nodes v)) ≡ 0
    none = sum_zero g.nodes (λ v. unfound g.nodes (place_of tree_nodes v)) (λ v l. unfound_no g.nodes (place_of tree_nodes v) (omega (arith, all v l, few g _ _ _ _ found i)))

    is : found ≡ g.nodes
    is = omega (arith, i.count, none)
