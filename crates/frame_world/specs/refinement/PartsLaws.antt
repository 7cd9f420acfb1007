-- The laws of the parts on which the headline rests.
use Rattle.session_meaning.specs.Laws.{WritesWhatItHas}
use Rattle.token_channel.specs.Channels.{WhatComesWasAway, WhatFollowsWasAway}
use Rattle.drinking_core.specs.Worlds.{RecordsStay, PeersStay, BottlesStartWithTheirValues, ValuesStay, FinishingWrites}

pub record PartsLaws : Type 0 where
  pub away : WhatComesWasAway
  pub away_kept : WhatFollowsWasAway
  pub written : WritesWhatItHas
  pub records : RecordsStay
  pub peers : PeersStay
  pub begin : BottlesStartWithTheirValues
  pub stay : ValuesStay
  pub finishing : FinishingWrites
