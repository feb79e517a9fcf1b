-- Consists in tables.
use Rattle.std.proofs.Common.{◌≡◌, suc, ◌+◌, ◌≤◌, List, [], ◌∷◌, ◌++◌, length, take, drop, sym, refl, ap, ◌∙◌, ap₂, append_assoc, arith, length-drop, take-take, drop-drop}
use Rattle.std.proofs.lemmas.List.{drop-take, drop_more}
use Rattle.train.specs.declared.entries.Vehicle.{Vehicle}
use Rattle.fleet_list.specs.declared.tables.Head.{Head}
use Rattle.fleet.specs.Books.{Item, vehicles_in}
use Rattle.fleet_list.specs.Tables.{item_of, gathered, counts}

pub counts_push : (hs : List Head) (h : Head) → counts (hs ++ h ∷ []) ≡ counts hs + h.count
counts_push [] h = omega arith
counts_push (x ∷ hs) h = omega (arith, counts_push hs h)

pub gathered_push : (hs : List Head) (h : Head) (vs : List Vehicle) → gathered (hs ++ h ∷ []) vs ≡ gathered hs vs ++ item_of h (drop (counts hs) vs) ∷ []
gathered_push [] h vs = refl
gathered_push (x ∷ hs) h vs =
    ap (λ z. item_of x vs ∷ z) (gathered_push hs h (drop x.count vs) ∙ ap (λ z. gathered hs (drop x.count vs) ++ item_of h z ∷ []) (drop-drop (counts hs) x.count vs))

-- only the vehicles that the heads count are looked at
pub gathered_front : (hs : List Head) (vs ws : List Vehicle) → take (counts hs) vs ≡ take (counts hs) ws → gathered hs vs ≡ gathered hs ws
gathered_front [] vs ws e = refl
gathered_front (h ∷ hs) vs ws e =
    let n = h.count in
    let m = counts hs in
    let l : n ≤ n + m = omega arith in
    let a : take n vs ≡ take n ws = sym (take-take n (n + m) vs l) ∙ ap (take n) e ∙ take-take n (n + m) ws l in
    let b : take m (drop n vs) ≡ take m (drop n ws) = sym (drop-take n m vs) ∙ ap (drop n) e ∙ drop-take n m ws in
    ap₂ (λ z zs. record { identity = h.identity; consist = record { counter = h.counter; vehicles = z } } ∷ zs) a (gathered_front hs (drop n vs) (drop n ws) b)

pub length-gathered : (hs : List Head) (vs : List Vehicle) → length (gathered hs vs) ≡ length hs
length-gathered [] vs = refl
length-gathered (h ∷ hs) vs = ap suc (length-gathered hs (drop h.count vs))

pub vehicles_push : (is : List Item) (i : Item) → vehicles_in (is ++ i ∷ []) ≡ vehicles_in is ++ i.consist.vehicles
vehicles_push [] i = Rattle.std.proofs.lemmas.List.append-nil i.consist.vehicles
vehicles_push (x ∷ is) i = ap (λ z. x.consist.vehicles ++ z) (vehicles_push is i) ∙ sym (append_assoc x.consist.vehicles (vehicles_in is) i.consist.vehicles)

-- the vehicles of all of them
pub gathered-vehicles : (hs : List Head) (vs : List Vehicle) → counts hs ≤ length vs → vehicles_in (gathered hs vs) ≡ take (counts hs) vs
gathered-vehicles [] vs l = refl
gathered-vehicles (h ∷ hs) vs l =
    let n = h.count in
    let m = counts hs in
    let w : n ≤ n + m = omega arith in
    ap (λ z. take n vs ++ z) (gathered-vehicles hs (drop n vs) (omega (arith, length-drop n vs)) ∙ sym (drop-take n m vs)) ∙ ap (λ z. z ++ drop n (take (n + m) vs)) (sym (take-take n (n + m) vs w))
    ∙ lib.ListN.take-append-drop n (take (n + m) vs)
