-- Steps of the solver one after another.
use Rattle.std.proofs.Common.{◌≡◌, refl, ap, ◌∙◌, arith}
use Rattle.std.proofs.lemmas.Int.{ints}
use Rattle.net_graph.specs.Graph.{Graph}
use Rattle.net_graph.specs.Network.{graph}
use Rattle.net_graph.specs.Sound.{State, state, Sound, Later}
use Rattle.net_graph.specs.declared.flow.Flow.{Flow}
use Rattle.net_search.specs.Tree.{SameSlices}
use Rattle.net_search.specs.declared.search.Search.{Search}
use Rattle.net_solve.specs.Inner.{Progress}

pub later_none : (g : Graph) (s : State) → Later g s s
later_none g s = record { supplies = λ v h. refl; moved = λ a h. omega arith; leaves = λ v. omega (arith, ints); comes = λ v. omega (arith, ints) }

pub later_more : (g : Graph) (s t u : State) → Later g s t → Later g t u → Later g s u
later_more g s t u a b = record { supplies = λ v h. b.supplies v h ∙ a.supplies v h; moved = λ c h. omega (arith, a.moved c h, b.moved c h); leaves = λ v. omega (arith, ints, a.leaves v, b.leaves v); comes = λ v. omega (arith, ints, a.comes v, b.comes v) }

-- a search alone is progress
pub progress_none : (f : Flow) (q q' : Search) → Sound (graph f.net) (state f) → SameSlices q q' → Progress f q f q'
progress_none f q q' o s = record {
  same = record { net = refl; flow = refl; nodes = refl };
  slices = s;
  sound = o;
  later = later_none (graph f.net) (state f);
  quiet = λ v h e. e;
}

pub slices_none : (q : Search) → SameSlices q q
slices_none q = record { labels = refl; order = refl; frontier = refl; len = refl }

pub progress_more : (f : Flow) (q : Search) (f' : Flow) (q' : Search) (f'' : Flow) (q'' : Search) → Progress f q f' q' → Progress f' q' f'' q'' → Progress f q f'' q''
progress_more f q f' q' f'' q'' a b =
    record {
      same = record { net = b.same.net ∙ a.same.net; flow = b.same.flow ∙ a.same.flow; nodes = b.same.nodes ∙ a.same.nodes };
      slices = record { labels = b.slices.labels ∙ a.slices.labels; order = b.slices.order ∙ a.slices.order; frontier = b.slices.frontier ∙ a.slices.frontier; len = b.slices.len ∙ a.slices.len };
      sound = rw as_before at b.sound;
      later = later_more (graph f.net) (state f) (state f') (state f'') a.later (rw as_before at b.later);
      quiet = λ v h e. b.quiet v (omega (arith, h, ap (λ (g : Graph). g.nodes) as_before)) (a.quiet v h e);
    }
  where
    as_before : graph f'.net ≡ graph f.net
    as_before = ap graph a.same.net

-- the flow is sound on its own network
pub sound_now : (f : Flow) (q : Search) (f' : Flow) (q' : Search) → Progress f q f' q' → Sound (graph f'.net) (state f')
sound_now f q f' q' a = rw (ap graph a.same.net) a.sound
