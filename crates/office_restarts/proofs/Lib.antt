mod Parts
mod Kept
mod Restarts
mod StepsStand
mod GoingOn
