mod Chosen
mod Drawn
mod Entering
mod Picked
mod Same
mod Zeros
