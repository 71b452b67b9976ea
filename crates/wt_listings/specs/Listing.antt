-- The text and status of a listing.
use Rattle.std.specs.Prelude.{◌≡◌}
use Rattle.wt_listings.specs.declared.listing.Listing.{Listing}
use Rattle.wt_listings.specs.Lines.{ListingText}

-- the listing has this text and this status
pub record HasText (l : Listing) (x : ListingText) : Type 0 where
  pub text : l.text.items ≡ x.text
  pub status : l.status ≡ x.status
