-- Links of which a network can be made are fit one by one.
use Rattle.std.proofs.Common.{ℕ, List, arith}
use Rattle.std.specs.List.{All}
use Rattle.std.proofs.lemmas.Int.{ints}
use Rattle.std.proofs.lemmas.List.Elements.{All-get_or, All-from_get_or}
use Rattle.net_build.specs.Ends.{no_edge}
use Rattle.net_build.specs.declared.edge.Edge.{Edge}
use Rattle.net_links_solve.specs.Fit.{FitLink, FitList}
use Rattle.net_links_solve.specs.Link.{AreLinks}

pub each_fit : (n : ℕ) (es : List Edge) → FitList n es → All (FitLink n) es
each_fit n es f =
    All-from_get_or (FitLink n) es no_edge
    (λ i h. record {
      takes = f.links i h;
      from = f.fit.between.from i h;
      to = f.fit.between.to i h;
      ordered = f.fit.ordered i h;
      low_small = omega (arith, ints, f.fit.low_small i h);
      high_small = f.fit.high_small i h;
    })

pub all_links : (n : ℕ) (es : List Edge) → All (FitLink n) es → AreLinks es
all_links n es all i h = (All-get_or (FitLink n) es i no_edge h all).takes
