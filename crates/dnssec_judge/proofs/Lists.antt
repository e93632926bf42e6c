-- What tests find: a key in a list.
use Rattle.dnssec_judge.proofs.Base.{◌≡◌, any-key, Contains, Decides, Decides-like, Id, is_in, List}
use Rattle.dnssec_judge.proofs.Base.{refl, same-id, same_id, subst}

pub in-list : (ids : List Id) (k : Id) → Decides (is_in ids k) (Contains ids k)
in-list ids k =
    Decides-like _ (λ t. subst (Contains ids) t.2 t.1) (λ c. (k, c, refl))
    (any-key (λ other. same_id other k) (λ other. other ≡ k) (λ other. same-id other k) ids)
