-- Lines that are not too many stand in the tables, and what becomes of them there is what import answers.
use Rattle.std.proofs.Common.{◌≡◌, ℕ, ◌≤◌, List, length, take, Ok, Err, Result, ◌∙◌, subst, ap₂, inr, arith, take-take}
use Rattle.train.specs.declared.entries.Vehicle.{Vehicle}
use Rattle.train.specs.declared.refusal.Refusal.{Refusal}
use Rattle.fleet_list.specs.declared.tables.Head.{Head}
use Rattle.fleet_list.specs.Imports.{Stored, Imported}
use Rattle.fleet_list.specs.Readings.{Listed}
use Rattle.fleet_list.specs.Tables.{gathered, counts}
use Rattle.fleet_list.proofs.Gathers.{gathered_front}
use Rattle.fleet_list.proofs.Lawful.{lawful}
use Rattle.fleet_list.proofs.Stores.{past_vehicles}

module _ (t : List ℕ) (heads : List Head) (vehicles : List Vehicle) (lines total : ℕ) (g : Listed t heads vehicles lines total) (few : lines ≤ 200) (small : total ≤ 2000)
    (hs : List Head) (vs : List Vehicle) (eh : hs ≡ take lines heads) (ev : vs ≡ take total vehicles) where
  pub items : gathered hs vs ≡ g.whole
  items =
      let h = g.held few small in
      let front = take lines heads in
      let cut : take (counts front) (take total vehicles) ≡ take (counts front) vehicles = take-take (counts front) total vehicles (omega (arith, h.sum)) in
      ap₂ gathered eh ev ∙ gathered_front front (take total vehicles) vehicles cut ∙ h.items

stored : (t before after : List ℕ) (heads : List Head) (vehicles : List Vehicle) (lines total : ℕ) (r : Result ℕ Refusal) (g : Listed t heads vehicles lines total) → lines ≤ 200 → total ≤ 2000 → Stored g.whole before after r → Imported t before after r
stored t before after heads vehicles lines total (Ok n) g few small s = record {
  items = g.whole;
  lines = g.good;
  fleet = lawful g.whole (length before) g.good (omega (arith, g.count)) (omega (arith, g.sum)) s.0;
  is = g.is;
  wrote = s.1;
}
stored t before after heads vehicles lines total (Err f) g few small s = (
  s.1,
  inr (record {
    items = g.whole;
    lines = g.good;
    is = g.is;
    refused = past_vehicles g.whole (length before) (omega (arith, g.count)) (omega (arith, g.sum)) ∙ s.0;
  }),
)

pub imported : (t before after : List ℕ) (heads : List Head) (vehicles : List Vehicle) (lines total : ℕ) (r : Result ℕ Refusal) (hs : List Head) (vs : List Vehicle) → Listed t heads vehicles lines total → lines ≤ 200 → total ≤ 2000
    → hs ≡ take lines heads → vs ≡ take total vehicles → Stored (gathered hs vs) before after r → Imported t before after r
imported t before after heads vehicles lines total r hs vs g few small eh ev s =
    stored t before after heads vehicles lines total r g few small (subst (λ z. Stored z before after r) (items t heads vehicles lines total g few small hs vs eh ev) s)
