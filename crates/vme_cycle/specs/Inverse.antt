-- The location of signals, recovered from their strobes.
use Rattle.std.specs.Prelude.{◌≡◌, unwrap_or}
use Rattle.std.proofs.Common.{ap}
use Rattle.vme_lanes.specs.declared.location.Location.{Location}
use Rattle.vme_lanes.specs.declared.location.Location.TheVariants.{Byte0}
use Rattle.vme_lanes.specs.declared.location.Strobes.{Strobes}
use Rattle.vme_lanes.specs.Rows.{row_of, location_sensed}
use Rattle.vme_lanes.proofs.lemmas.Tables.{own_sensed}

-- the location that strobes select, or BYTE(0) where they select none
unfoldable pub location_of : Strobes → Location
location_of strobes = unwrap_or (location_sensed strobes) Byte0

-- the location of a location's strobes is that location
pub location_of-strobes : (l : Location) → location_of (row_of l).strobes ≡ l
unfolding location_of
location_of-strobes l = ap (λ found. unwrap_or found Byte0) (own_sensed l)
