-- That the order in which connections go is one: it goes on over lists.
use Rattle.std.proofs.Common.{inl, inr, List, [], ◌∷◌, ◌++◌, refl, arith, Some, slice_index_or}
use Rattle.std.proofs.lemmas.List.Elements.{Contains-append_right, All-push}
use Rattle.outside_sockets.specs.declared.choice.Standing.{Standing}
use Rattle.outside_sockets.specs.Choice.{GoesNoLater, GoesFirst}

pub itself : (one : Standing) → GoesNoLater one one
itself one = inr (refl, omega arith)

pub through : (a b c : Standing) → GoesNoLater a b → GoesNoLater b c → GoesNoLater a c
through a b c (inl p) (inl q) = inl (omega (arith, p, q))
through a b c (inl p) (inr q) = inl (omega (arith, p, q.0))
through a b c (inr p) (inl q) = inl (omega (arith, p.0, q))
through a b c (inr p) (inr q) = inr (omega (arith, p.0, q.0), omega (arith, p.1, q.1))

pub it_goes : (met : List Standing) (first one : Standing) → GoesFirst met (Some first) → GoesNoLater one first → GoesFirst (met ++ one ∷ []) (Some one)
it_goes met first one is before =
    (Contains-append_right met (one ∷ []) one (0, omega arith, refl), All-push (GoesNoLater one) met one (λ k d within. through one first (slice_index_or met k d) before (is.1 k d within)) (itself one))
