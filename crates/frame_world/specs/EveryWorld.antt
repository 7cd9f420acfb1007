-- All that holds of every world, in one record.
use Rattle.dining_core.specs.Worlds.{HasNoRing}
use Rattle.frame_world.specs.Worlds.{World}
use Rattle.frame_world.specs.Ways.{pairs_at, tables_of}
use Rattle.frame_world.specs.Headline.{HasSerialSessions, HasSerialValues, HasOnePlaceEach, NeighboursEatApart, EatersHaveTheirForks, DrinkersHaveTheirBottles, FramesAreTaken, NoneIsEarly, FramesGoByBytes, CountsAreTimely}
use Rattle.frame_world.specs.Strict.{IsStrict}
use Rattle.frame_world.specs.Termination.{RunsEnd, WhoGoesOnFinishes}
use Rattle.frame_world.specs.Tickets.{HaveTheirTickets, TicketsRise, TellsEachOffice}

-- all that holds of each world to which events lead
pub record HasHeadline (w : World) : Type 0 where
  pub sessions : HasSerialSessions w
  pub strict : IsStrict w
  pub tickets : HaveTheirTickets w
  pub rise : TicketsRise w
  pub offices : TellsEachOffice w
  pub bottles : HasSerialValues w
  pub places : HasOnePlaceEach w
  pub apart : NeighboursEatApart w
  pub eaters : EatersHaveTheirForks w
  pub drinkers : DrinkersHaveTheirBottles w
  pub order : HasNoRing w.plan (tables_of (pairs_at w))
  pub frames : FramesAreTaken w
  pub early : NoneIsEarly w
  pub bytes : FramesGoByBytes w
  pub counts : CountsAreTimely w
  pub ends : RunsEnd w
  pub finishes : WhoGoesOnFinishes w
