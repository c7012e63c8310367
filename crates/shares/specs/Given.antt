-- "Numbers given back": for each case of a share's answer, document 01's number and the values that come with it: share, queue bound, delay bound.
use Rattle.std.specs.Prelude.{[], ◌∷◌, Result, Ok, Err}
use Rattle.site.specs.Given.{Given}
use Rattle.shares.specs.Share.{Shares}
use Rattle.shares.specs.declared.ShareError.{ShareError}
use Rattle.shares.specs.declared.ShareError.TheVariants.{OutOfRange, BadFlow, BigShare}

abbrev pub share_given : Result Shares ShareError → Given
share_given (Ok (share, queue, delay)) = record { number = 0; values = share.0 ∷ queue.0 ∷ delay.0 ∷ [] }
share_given (Err OutOfRange) = record { number = 1; values = [] }
share_given (Err BadFlow) = record { number = 15; values = [] }
share_given (Err BigShare) = record { number = 16; values = [] }
