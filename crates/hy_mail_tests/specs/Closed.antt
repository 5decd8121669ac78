-- Which senders' Close was taken.
use Rattle.std.specs.Prelude.{◌≡◌, Bool, true, List}
use Rattle.std.specs.List.{Contains}
use Rattle.hy_mail.specs.declared.parcel.Parcel.TheVariants.{Close}
use Rattle.hy_mail.specs.declared.parcel.Posted.{Posted}
use Rattle.hy_mail.specs.DeskRuns.{of_sender}

abbrev pub HasClosed : List Posted → Bool → Bool → Type 0
HasClosed took first second = (first ≡ true → Contains (of_sender 0 took) Close) × (second ≡ true → Contains (of_sender 1 took) Close)
