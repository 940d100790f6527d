-- Forests: each node is the root of a tree, or hangs on a node that was found before it.
use Rattle.std.specs.Prelude.{◌≡◌, ℕ, ◌+◌, ◌<◌, ◌≤◌, if◌then◌else◌, nat_lt, List, pos, ◌≢◌, slice_index, slice_index_or}
use Rattle.sums.specs.Sum.{sum_to}
use Rattle.net_graph.specs.Graph.{Graph}
use Rattle.net_graph.specs.Order.{node_at}
use Rattle.net_forest.specs.declared.tree_node.TreeNode.{TreeNode}

-- what is read past the end of a list of tree nodes
abbrev pub no_tree_node : TreeNode
no_tree_node = record { root = 0; pred = 0; place = 0 }

abbrev pub root_of : List TreeNode → ℕ → ℕ
root_of tree_nodes v = (slice_index_or tree_nodes v no_tree_node).root

abbrev pub pred_of : List TreeNode → ℕ → ℕ
pred_of tree_nodes v = (slice_index_or tree_nodes v no_tree_node).pred

abbrev pub place_of : List TreeNode → ℕ → ℕ
place_of tree_nodes v = (slice_index_or tree_nodes v no_tree_node).place

-- node v hangs by an arc on a node of its tree that was found before it, and a unit along that arc costs nothing, nor one back
pub record HasParent (g : Graph) (root pred place : ℕ → ℕ) (v : ℕ) : Type 0 where
  pub arc : pred v < g.arcs
  pub ends : g.head (pred v) ≡ v
  pub free : g.cost (pred v) ≡ pos 0
  pub free_back : g.cost (g.pair (pred v)) ≡ pos 0
  pub earlier : place (g.tail (pred v)) < place v
  pub same : root (g.tail (pred v)) ≡ root v

-- a unit along arc a costs nothing, nor one back
pub record Free (g : Graph) (a : ℕ) : Type 0 where
  pub along : g.cost a ≡ pos 0
  pub back : g.cost (g.pair a) ≡ pos 0

-- arc a leads to a node that is found, of the tree of r
pub record Within (g : Graph) (root place : ℕ → ℕ) (found r a : ℕ) : Type 0 where
  pub reached : place (g.head a) < found
  pub same : root (g.head a) ≡ r

-- what costs nothing and leaves the first so many nodes stays in their trees
abbrev pub Closed : (g : Graph) (root place : ℕ → ℕ) (found done : ℕ) → Type 0
Closed g root place found done = (a : ℕ) → a < g.arcs → place (g.tail a) < done → Free g a → Within g root place found (root (g.tail a)) a

-- the nodes at the places from k on that are found are all of one tree
abbrev pub Single : (g : Graph) (root place : ℕ → ℕ) (found k r : ℕ) → Type 0
Single g root place found k r = (v : ℕ) → v < g.nodes → k ≤ place v → place v < found → root v ≡ r

-- 1 for a node that was not found, whose place is n
abbrev pub unfound : ℕ → ℕ → ℕ
unfound n place = if nat_lt place n then 0 else 1

-- so many nodes are found, each at its place, and each of them is a root or hangs on another; the place of any other node is the number of
-- all nodes. Those found and those not found are all nodes, so the order is long enough for each that is not found.
pub record Growing (g : Graph) (root pred place order : ℕ → ℕ) (found : ℕ) : Type 0 where
  pub ordered : (k : ℕ) → k < found → order k < g.nodes
  pub back : (k : ℕ) → k < found → place (order k) ≡ k
  pub there : (v : ℕ) → v < g.nodes → place v < found → order (place v) ≡ v
  pub beyond : (v : ℕ) → v < g.nodes → found ≤ place v → place v ≡ g.nodes
  pub is_node : (v : ℕ) → v < g.nodes → place v < found → root v < g.nodes
  pub rooted : (v : ℕ) → v < g.nodes → place v < found → place (root v) < found
  pub at_root : (v : ℕ) → v < g.nodes → place v < found → root (root v) ≡ root v
  pub hangs : (v : ℕ) → v < g.nodes → place v < found → (root v ≢ v) → HasParent g root pred place v
  pub count : found + sum_to g.nodes (λ v. unfound g.nodes (place v)) ≡ g.nodes

-- all nodes are found, and trees are as large as they can be: no arc that costs nothing leads from one to another
pub record Forest (g : Graph) (tree_nodes : List TreeNode) (order : List ℕ) : Type 0 where
  pub ordered : (k : ℕ) → k < g.nodes → node_at order k < g.nodes
  pub back : (k : ℕ) → k < g.nodes → place_of tree_nodes (node_at order k) ≡ k
  pub placed : (v : ℕ) → v < g.nodes → place_of tree_nodes v < g.nodes
  pub there : (v : ℕ) → v < g.nodes → node_at order (place_of tree_nodes v) ≡ v
  pub is_node : (v : ℕ) → v < g.nodes → root_of tree_nodes v < g.nodes
  pub at_root : (v : ℕ) → v < g.nodes → root_of tree_nodes (root_of tree_nodes v) ≡ root_of tree_nodes v
  pub hangs : (v : ℕ) → v < g.nodes → (root_of tree_nodes v ≢ v) → HasParent g (root_of tree_nodes) (pred_of tree_nodes) (place_of tree_nodes) v
  pub largest : (a : ℕ) → a < g.arcs → Free g a → root_of tree_nodes (g.head a) ≡ root_of tree_nodes (g.tail a)

-- nodes that were found keep their places and their roots
pub record Kept (g : Graph) (old new : List TreeNode) (order order' : List ℕ) (found found' : ℕ) : Type 0 where
  pub more : found ≤ found'
  pub order_kept : (k : ℕ) → k < found → node_at order' k ≡ node_at order k
  pub root : (v : ℕ) → v < g.nodes → place_of old v < found → root_of new v ≡ root_of old v

-- tree_nodes and order are those of a forest that grows
abbrev pub Grows : Graph → List TreeNode → List ℕ → ℕ → Type 0
Grows g tree_nodes order found = Growing g (root_of tree_nodes) (pred_of tree_nodes) (place_of tree_nodes) (node_at order) found

-- node v is written as the next one that is found
pub record NodeAdded (old new : List TreeNode) (order order' : List ℕ) (found found' v : ℕ) (node : TreeNode) : Type 0 where
  pub here : (d : TreeNode) → slice_index_or new v d ≡ node
  pub kept : (w : ℕ) (d : TreeNode) → (w ≢ v) → slice_index_or new w d ≡ slice_index_or old w d
  pub last : slice_index order' found ≡ v
  pub before : (k : ℕ) → (k ≢ found) → slice_index order' k ≡ slice_index order k
  pub more : found' ≡ found + 1
