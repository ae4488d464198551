mod Formed
mod TextsAsked
mod Worlds
